-- The sources of a query, and a message that may come from one.
use Rattle.std.proofs.Common.{◌≡◌, ℕ, ◌+◌, ◌<◌, List, [], ◌∷◌, ◌++◌, length, get_or, set, take}
use Rattle.std.proofs.Common.{slice_get, unwrap_or, refl, sym, ap, subst, ◌∙◌, arith, inl, inr}
use Rattle.std.proofs.Common.{append-nil, length-set, min, suc}
use Rattle.std.proofs.lemmas.Bool.{cases_lt}
use Rattle.std.proofs.lemmas.List.{get_or-set_same, get_or-set_other, take_more, map-append}
use Rattle.std.proofs.lemmas.List.{get_or_push, length_push}
use Rattle.pipes_box.proofs.Built.{get-before}
use Rattle.pipes_tuple.specs.declared.value.Kind.{Kind}
use Rattle.pipes_stream.specs.declared.message.Message.{Message}
use Rattle.pipes_stream.specs.Progress.{Progress}
use Rattle.pipes_stream.specs.Lists.{CanFollow, after, run, start_of_list, Valid, beat}
use Rattle.pipes_stream.specs.Lawful.{Lists, with_message, no_messages, MessageFits, least}
use Rattle.pipes_stream.proofs.Messages.{run-push, valid-push}
use Rattle.pipes_works.proofs.BySource.{mapped-at, map-set_same}
use Rattle.pipes_live.specs.declared.source.Source.{Source}
use Rattle.pipes_live.specs.declared.live.Live.{Live}
use Rattle.pipes_live.specs.declared.state.State.{State}
use Rattle.pipes_live.specs.Lives.{AreSources, AtWork, IsNext}
use Rattle.pipes_live.specs.Deeds.{MayCome, Noted, Takes, TakesNext}
use Rattle.pipes_live.proofs.Given.{at-each}
use Rattle.pipes_live.proofs.Taking.{some-item}

schema-at : (schemas : List (List Kind)) (by_source : Lists) (sources : List Source) (source : ℕ)
    (d : Source) → source < length sources → AreSources schemas by_source sources
    → (get_or sources source d).schema ≡ unwrap_or (slice_get schemas source) []
schema-at schemas by_source sources source d l s =
    sym (mapped-at (λ (i : Source). i.schema) sources source d [] l)
    ∙ ap (λ (ss : List (List Kind)). unwrap_or (slice_get ss source) []) s.schemas_are

pub next-may : (l : Live) (schemas : List (List Kind)) (by_source : Lists) (source : ℕ)
    (m : Message) → source < length l.sources.items
    → AreSources schemas by_source l.sources.items → IsNext schemas by_source source m
    → MayCome l source m
next-may l schemas by_source source m within s next d = (
  subst (λ (p : Progress). CanFollow p m) (sym (s.watches source d within)) next.follows,
  subst (MessageFits m) (sym (schema-at schemas by_source l.sources.items source d within s))
      next.fits,
)

may-next : (l : Live) (schemas : List (List Kind)) (by_source : Lists) (source : ℕ)
    (m : Message) → source < length l.sources.items
    → AreSources schemas by_source l.sources.items → MayCome l source m
    → IsNext schemas by_source source m
may-next l schemas by_source source m within s may =
    let d : Source = some-item l.sources.items source within in
    record {
      follows = subst (λ (p : Progress). CanFollow p m) (s.watches source d within) (may d).0;
      fits = subst (MessageFits m) (schema-at schemas by_source l.sources.items source d within s)
          (may d).1;
    }

pub passes-over : (l : Live) (source : ℕ) (m : Message) → source < length l.sources.items
    → (MayCome l source m → ⊥) → Takes l l source m
passes-over l source m within not = record {
  entries = sym (append-nil _);
  beat = refl;
  taken_in = λ schemas query plan earlier rows by_source entries s next.
      absurd (not (next-may l schemas by_source source m within s.sources next));
  passed_over = λ schemas query plan earlier rows by_source entries s no_next. refl;
}

sources-put : (schemas : List (List Kind)) (by_source : Lists) (sources now : List Source)
    (source : ℕ) (m : Message) (d : Source) → source < length sources
    → AreSources schemas by_source sources → IsNext schemas by_source source m
    → now ≡ set sources source (record {
      watch = after (get_or sources source d).watch m;
      schema = (get_or sources source d).schema;
    })
    → AreSources schemas (with_message by_source source m) now
sources-put schemas by_source sources now source m d within s next is =
    let x : Source = record {
      watch = after (get_or sources source d).watch m;
      schema = (get_or sources source d).schema;
    } in
    subst (AreSources schemas (with_message by_source source m)) (sym is) (record {
      schemas_are = map-set_same (λ (i : Source). i.schema) sources source x d refl
          ∙ s.schemas_are;
      watches = λ k e l. at-each (λ (j : ℕ) (list : List Message). j < length sources
          → (get_or (set sources source x) j e).watch ≡ run start_of_list list)
          by_source source m
          (λ low. ap (λ (i : Source). i.watch) (get_or-set_same sources source x e within)
          ∙ ap (λ (p : Progress). after p m) (s.watches source d within)
          ∙ sym (run-push start_of_list (by_source source) m))
          (λ j apart low. ap (λ (i : Source). i.watch) (get_or-set_other sources source j x e apart)
          ∙ s.watches j e low)
          k (omega (arith, l, length-set sources source x));
      valid = at-each (λ (j : ℕ) (list : List Message). Valid list) by_source source m
          (valid-push start_of_list (by_source source) m (s.valid source) next.follows)
          (λ j apart. s.valid j);
    })

pub takes-in : (old mid new : Live) (source : ℕ) (m : Message) → source < length old.sources.items
    → MayCome old source m → Noted old mid source m → TakesNext mid.state new.state source m
    → new.sources ≡ mid.sources → new.split ≡ mid.split → Takes old new source m
takes-in old mid new source m within may noted t sources split =
    let d : Source = some-item old.sources.items source within in
    record {
      entries = rw noted.state at t.entries;
      beat = rw noted.state at t.beat;
      taken_in = λ schemas query plan earlier rows by_source entries s next. record {
        at_work = subst (λ (n : ℕ). AtWork new.state schemas query plan earlier rows n
            (with_message by_source source m) entries) (sym (split ∙ noted.split))
            (t.holds schemas query plan earlier rows old.split by_source entries
            (subst (λ (x : State).
            AtWork x schemas query plan earlier rows old.split by_source entries)
            (sym noted.state) s.at_work) s.sources.valid next);
        sources = sources-put schemas by_source old.sources.items new.sources.items source m d
            within s.sources next (ap (λ x. x.items) sources ∙ noted.sources d);
      };
      passed_over = λ schemas query plan earlier rows by_source entries s not.
          absurd (not (may-next old schemas by_source source m within s.sources may));
    }

-- ---- the sources at the start

pub source-added : (schemas : List (List Kind)) (k : ℕ) (sources : List Source) (x : Source)
    (d : List Kind) → k < length schemas → AreSources (take k schemas) no_messages sources
    → x.watch ≡ start_of_list → x.schema ≡ get_or schemas k d
    → AreSources (take (k + 1) schemas) no_messages (sources ++ x ∷ [])
source-added schemas k sources x d within are watch schema = record {
  schemas_are = map-append (λ (i : Source). i.schema) sources (x ∷ [])
      ∙ ap (λ (l : List (List Kind)). l ++ x.schema ∷ []) are.schemas_are
      ∙ ap (λ (s : List Kind). take k schemas ++ s ∷ []) schema
      ∙ sym (take_more schemas k d within);
  watches = λ j e l. elim (cases_lt j (length sources)) [
    | inl low ↦ ap (λ (i : Source). i.watch) (get-before sources (x ∷ []) j e low)
        ∙ are.watches j e low
    | inr high ↦ ap (λ (i : Source). i.watch) (get_or_push sources x e j
        (omega (arith, high, l, length_push sources x))) ∙ watch
  ];
  valid = λ j. tt;
}

pub sources-none : (schemas : List (List Kind)) → AreSources (take 0 schemas) no_messages []
sources-none schemas = record {
  schemas_are = refl;
  watches = λ k d l. absurd (omega (arith, l));
  valid = λ j. tt;
}

-- ---- the least heartbeat

pub least-watched : (schemas : List (List Kind)) (by_source : Lists) (sources : List Source)
    (source low now next : ℕ) (d : Source) → source < length sources
    → AreSources schemas by_source sources → low ≡ least source by_source
    → now ≡ (get_or sources source d).watch.beat → next ≡ min now low
    → next ≡ least (source + 1) by_source
least-watched schemas by_source sources source low now next d within are before is found =
    let at : now ≡ beat (by_source source) =
    is ∙ ap (λ (p : Progress). p.beat) (are.watches source d within) in
    let both : next ≡ min (beat (by_source source)) (least source by_source) =
    omega (arith, found, at, before) in
    let longer : suc source ≡ source + 1 = omega arith in
    both ∙ ap (λ (k : ℕ). least k by_source) longer
