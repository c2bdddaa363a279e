-- One plan began to take the place of another.
use Rattle.std.proofs.Common.{◌≡◌, ℕ, ◌+◌, ◌-◌, ◌≤◌, ◌<◌, max, Bool, true, false, List, [], ◌∷◌}
use Rattle.std.proofs.Common.{◌++◌, length, get_or, nat_lt, if◌then◌else◌, refl, sym, ap, subst}
use Rattle.std.proofs.Common.{◌∙◌}
use Rattle.std.proofs.Common.{arith, inl, inr, append-nil, slice_get, unwrap_or}
use Rattle.std.specs.List.{All}
use Rattle.std.proofs.lemmas.Bool.{cases_lt}
use Rattle.std.proofs.lemmas.List.Elements.{All-nil, All-weaker, All-same}
use Rattle.pipes_time.specs.Interval.{closed}
use Rattle.pipes_tuple.specs.declared.value.Kind.{Kind}
use Rattle.pipes_stream.specs.declared.Elem.{Elem}
use Rattle.pipes_stream.specs.declared.message.Message.{Message}
use Rattle.pipes_stream.specs.declared.message.Message.TheVariants as message
use Rattle.pipes_stream.specs.Progress.{Progress}
use Rattle.pipes_stream.specs.Lists.{CanFollow, run, start_of_list, Valid, beat, elements}
use Rattle.pipes_stream.specs.Lawful.{Lists, no_messages, IsCovered, MessageFits}
use Rattle.pipes_stream.proofs.Messages.{elements-append}
use Rattle.pipes_coalesce.specs.Stands.{StartsFromSplit}
use Rattle.pipes_seam.specs.declared.seam.Seam.{Seam}
use Rattle.pipes_plan.specs.declared.plan.Plan.{Plan}
use Rattle.pipes_output.specs.declared.entry.Entry.{Entry}
use Rattle.pipes_semantics.specs.Written.{results}
use Rattle.pipes_works.specs.Sources.{Reads}
use Rattle.pipes_works.specs.Standing.{WorksStand, source_count}
use Rattle.pipes_halves.specs.Halves.{low_opening, high_opening, grown}
use Rattle.pipes_halves.proofs.Sides.{grown-going, grown-over}
use Rattle.pipes_halves.proofs.Laws.{split-laws}
use Rattle.pipes_standing.specs.declared.standing.Standing.{Standing}
use Rattle.pipes_standing.specs.Calms.{Rows, AllEndBy, Calm, IsUpToDate}
use Rattle.pipes_moving.specs.declared.moving.Moving.{Moving as Between}
use Rattle.pipes_moving.specs.declared.next.Next.{Next}
use Rattle.pipes_moving.specs.Moves.{IsMoving, split_of, first_of}
use Rattle.pipes_moving.specs.Steps.{MayComeFresh}
use Rattle.pipes_moving.specs.Steps.{Begins as BeginsMoving}
use Rattle.pipes_moving.proofs.Beginning.{count-is}
use Rattle.pipes_live.specs.declared.source.Source.{Source}
use Rattle.pipes_live.specs.declared.state.State.{State}
use Rattle.pipes_live.specs.declared.state.State.TheVariants as state
use Rattle.pipes_live.specs.declared.live.Live.{Live}
use Rattle.pipes_live.specs.Lives.{IsGiven, AreGiven, AreSources, ServesAlone}
use Rattle.pipes_live.specs.Lives.{ServesMoving, AtWork, beat_in, entries_in, IsAlone}
use Rattle.pipes_live.specs.Deeds.{GivesBelow, GivesBoth, BeginsWith, CanOpen, Opened}
use Rattle.pipes_live.specs.Deeds.{Opens, OpensIn, MaySplit, IsLike, Begins}
use Rattle.pipes_live.proofs.Reading.{reads-within}
use Rattle.pipes_live.proofs.Settling.{parts-end}
use Rattle.pipes_live.proofs.Starting.{sources-counted}
use Rattle.pipes_live.proofs.Taking.{GivenBelow, GivenFrom, gave-below, gave-from, may-come, IsFew}
use Rattle.pipes_live.proofs.Taking.{from-seam, below-entries, from-entries, follow-of}

-- ---- what comes first of a source

-- it has no elements
grown-elements : (given lows : List Message) → elements lows ≡ []
    → elements (grown given lows) ≡ elements given
grown-elements given lows none = go (run start_of_list given).ended refl
  where
    go : (b : Bool) → (run start_of_list given).ended ≡ b
        → elements (grown given lows) ≡ elements given
    go true ended = ap elements (grown-over given lows ended)
    go false going = ap elements (grown-going given lows going) ∙ elements-append given lows
        ∙ ap (λ (es : List Elem). elements given ++ es) none ∙ append-nil (elements given)

low-none : (at split : ℕ) → elements (low_opening at split) ≡ []
low-none at split = go (nat_lt at split)
  where
    go : (b : Bool) → elements (if b then [] else message.End ∷ []) ≡ []
    go true = refl
    go false = refl

high-none : (at : ℕ) (ended : Bool) (split : ℕ) → elements (high_opening at ended split) ≡ []
high-none at true split = refl
high-none at false split = refl

high-one : (at : ℕ) (ended : Bool) (split : ℕ) → IsFew (high_opening at ended split)
high-one at true split = tt
high-one at false split = tt

-- it lies on neither side, and has no tuple
high-free : (at : ℕ) (ended : Bool) (split low : ℕ) (kinds : List Kind) (x : Message)
    → high_opening at ended split ≡ x ∷ [] → StartsFromSplit low x × MessageFits x kinds
high-free at true split low kinds x is =
    let here : x ≡ message.End = cc is in
    subst (λ (y : Message). StartsFromSplit low y × MessageFits y kinds) (sym here) (tt, tt)
high-free at false split low kinds x is =
    let here : x ≡ message.Beat (max at split) = cc is in
    subst (λ (y : Message). StartsFromSplit low y × MessageFits y kinds) (sym here) (tt, tt)

grown-none : (given : List Message) → given ≡ grown given []
grown-none given = go (run start_of_list given).ended refl
  where
    go : (b : Bool) → (run start_of_list given).ended ≡ b → given ≡ grown given []
    go true ended = sym (grown-over given [] ended)
    go false going = sym (grown-going given [] going ∙ append-nil given)

-- the lists on both sides of the split, of a source that has come so far
opened-given : (split base first : ℕ) (all given : List Message) → 1 ≤ split → split ≤ closed
    → base ≤ split → Valid all → IsGiven base all given
    → All (λ e. e.span.end ≤ split) (elements all) → first ≤ beat all
    → AreGiven split base first all (grown given (low_opening (beat all) split))
    (high_opening (beat all) (run start_of_list all).ended split)
opened-given split base first all given some most based valid g ends begun = record {
  sides = split-laws.opens split base all given some most based valid g.so_far ends;
  low_parts = All-same (IsCovered (elements all))
      (elements (grown given (low_opening (beat all) split))) (elements given)
      (grown-elements given (low_opening (beat all) split) (low-none (beat all) split)) g.parts;
  high_parts = All-same (IsCovered (elements all))
      (elements (high_opening (beat all) (run start_of_list all).ended split)) []
      (high-none (beat all) (run start_of_list all).ended split)
      (All-nil (IsCovered (elements all)));
  begun = begun;
}

below-seam : (old new : Between) (source : ℕ) (lows : List Message)
    → GivesBelow old new source lows → new.seam ≡ old.seam
below-seam old new source [] t = ap (λ (m : Between). m.seam) t
below-seam old new source (x ∷ xs) t = t.seam

-- ---- one source more

module _ (schemas : List (List Kind)) (before after : Plan) (rows : Rows) (base : ℕ)
    (given by_source : Lists) (entries : List Entry) (m next : Between) (sources : List Source)
    (count : ℕ) (within : count < length sources)
    (o : Opened m schemas before after rows base given by_source entries count)
    (can : CanOpen m schemas after base given by_source sources)
    (g : GivesBoth m next count (low_opening (beat (by_source count)) (split_of m))
    (high_opening (beat (by_source count)) (run start_of_list (by_source count)).ended
    (split_of m))) where
  abbrev Lows : List Message
  Lows = low_opening (beat (by_source count)) (split_of m)

  abbrev Highs : List Message
  Highs = high_opening (beat (by_source count)) (run start_of_list (by_source count)).ended
      (split_of m)

  both-given : Reads schemas after count → AreGiven (split_of m) base (first_of m)
      (by_source count) (grown (given count) Lows) Highs
  both-given reads = opened-given (split_of m) base (first_of m) (by_source count) (given count)
      can.some o.moving.closes o.moving.rises (can.sources_are.valid count)
      (can.each count reads) (can.ends count reads) (can.begun count reads)

  in-schemas : count < length schemas
  in-schemas = omega (arith, within, sources-counted schemas by_source sources can.sources_are)

  within-old : count < source_count m.old_works
  within-old = omega (
    arith,
    in-schemas,
    count-is m.old_works schemas before o.below o.moving.old_got o.moving.old,
  )

  gave-low : (b : Bool) → GivesBelow m g.between count (if b then [] else message.End ∷ [])
      → GivenBelow schemas before after rows base entries count g.between o.below o.from
      (if b then [] else message.End ∷ [])
  gave-low true t = record {
    list = o.below;
    moving = subst (λ (x : Between).
        IsMoving x schemas before after rows base o.below o.from entries) (sym t) o.moving;
    here = λ reads. grown-none (o.below count);
    others = λ k apart. refl;
  }
  gave-low false t = gave-below schemas before after rows base entries count m g.between o.below
      o.from message.End within-old o.moving t (λ reads going. (
        tt,
        may-come m.old_works schemas before o.below o.moving.old_got count message.End
            o.moving.old within-old going tt,
      ))

  below-now : GivenBelow schemas before after rows base entries count g.between o.below o.from
      Lows
  below-now = gave-low (nat_lt (beat (by_source count)) (split_of m)) g.below

  within-fresh : count < source_count g.between.fresh_works
  within-fresh = omega (
    arith,
    in-schemas,
    count-is g.between.fresh_works schemas after o.from below-now.moving.fresh_got
        below-now.moving.fresh,
  )

  may-fresh : (x : Message) → Highs ≡ x ∷ [] → Reads schemas after count
      → MayComeFresh g.between count x
  may-fresh x is reads =
      let free = high-free (beat (by_source count)) (run start_of_list (by_source count)).ended
      (split_of m) (max (split_of g.between) (first_of g.between))
      (unwrap_or (slice_get schemas count) []) x is in
      let first : CanFollow start_of_list x =
      follow-of [] x (subst Valid is (both-given reads).sides.high.valid) in (
        free.0,
        may-come g.between.fresh_works schemas after o.from below-now.moving.fresh_got count x
            below-now.moving.fresh within-fresh
            (subst (λ (l : List Message). CanFollow (run start_of_list l) x)
            (sym (o.rest count (omega arith)).1) first) free.1,
      )

  from-now : GivenFrom schemas before after rows base entries count next below-now.list o.from
      Highs
  from-now = gave-from schemas before after rows base entries count g.between next below-now.list
      o.from Highs below-now.moving g.from
      (high-one (beat (by_source count)) (run start_of_list (by_source count)).ended (split_of m))
      may-fresh

  pub seam-now : next.seam ≡ m.seam
  seam-now = from-seam g.between next count Highs g.from ∙ below-seam m g.between count Lows g.below

  here-now : Reads schemas after count → AreGiven (split_of m) base (first_of m)
      (by_source count) (below-now.list count) (from-now.list count)
  here-now reads =
      let low : below-now.list count ≡ grown (given count) Lows =
      below-now.here reads ∙ ap (λ (l : List Message). grown l Lows) (o.rest count (omega arith)).0
      in
      let high : from-now.list count ≡ Highs =
      from-now.here reads ∙ ap (λ (l : List Message). l ++ Highs) (o.rest count (omega arith)).1 in
      subst (λ (l : List Message). AreGiven (split_of m) base (first_of m) (by_source count) l
      (from-now.list count)) (sym low)
      (subst (AreGiven (split_of m) base (first_of m) (by_source count) (grown (given count) Lows))
      (sym high) (both-given reads))

  each-now : (k : ℕ) → k < count + 1 → Reads schemas after k → AreGiven (split_of m) base
      (first_of m) (by_source k) (below-now.list k) (from-now.list k)
  each-now k low reads = elim (cases_lt k count) [
    | inl less ↦
        (let apart : k ≡ count → ⊥ = (λ same. absurd (omega (arith, same, less))) in
        subst (λ (l : List Message). AreGiven (split_of m) base (first_of m) (by_source k) l
        (from-now.list k)) (sym (below-now.others k apart))
        (subst (AreGiven (split_of m) base (first_of m) (by_source k) (o.below k))
        (sym (from-now.others k apart)) (o.each k less reads)))
    | inr high ↦
        (let same : count ≡ k = omega (arith, low, high) in
        subst (λ (j : ℕ). Reads schemas after j → AreGiven (split_of m) base (first_of m)
        (by_source j) (below-now.list j) (from-now.list j)) same here-now reads)
  ]

  pub one-opened : Opened next schemas before after rows base given by_source entries (count + 1)
  one-opened = record {
    below = below-now.list;
    from = from-now.list;
    moving = from-now.moving;
    each = subst (λ (e : Seam). (k : ℕ) → k < count + 1 → Reads schemas after k
        → AreGiven e.merge.split base e.first (by_source k) (below-now.list k) (from-now.list k))
        (sym seam-now) each-now;
    rest = λ k late.
        let apart : k ≡ count → ⊥ = (λ same. absurd (omega (arith, same, late))) in
        let before = o.rest k (omega (arith, late)) in (
          below-now.others k apart ∙ before.0,
          from-now.others k apart ∙ before.1,
        );
  }

-- ---- all sources

can-same : (old new : Between) (schemas : List (List Kind)) (after : Plan) (base : ℕ)
    (given by_source : Lists) (sources : List Source) → new.seam ≡ old.seam
    → CanOpen old schemas after base given by_source sources
    → CanOpen new schemas after base given by_source sources
can-same old new schemas after base given by_source sources seam can = record {
  sources_are = can.sources_are;
  each = can.each;
  some = rw seam can.some;
  ends = rw seam can.ends;
  begun = rw seam can.begun;
}

pub opens-none : (m : Between) (sources : List Source) (split : ℕ) → Opens m m sources split 0
opens-none m sources split = record {
  entries = refl;
  beat = refl;
  seam = refl;
  holds = λ schemas before after rows base given by_source entries split_is can o. o;
}

pub opens-more : (old mid new : Between) (sources : List Source) (split count : ℕ) (d : Source)
    → count < length sources → Opens old mid sources split count
    → GivesBoth mid new count (low_opening (get_or sources count d).watch.beat split)
    (high_opening (get_or sources count d).watch.beat (get_or sources count d).watch.ended split)
    → Opens old new sources split (count + 1)
opens-more old mid new sources split count d within o g =
    let low = below-entries mid g.between count _ g.below in
    let high = from-entries g.between new count _ g.from in
    record {
      entries = high.0 ∙ low.0 ∙ o.entries;
      beat = high.1 ∙ low.1 ∙ o.beat;
      seam = from-seam g.between new count _ g.from ∙ below-seam mid g.between count _ g.below
          ∙ o.seam;
      holds = λ schemas before after rows base given by_source entries split_is can start.
          one-opened schemas before after rows base given by_source entries mid new sources count
          within
          (o.holds schemas before after rows base given by_source entries split_is can start)
          (can-same old mid schemas after base given by_source sources o.seam can)
          (subst (λ (n : ℕ). GivesBoth mid new count (low_opening (beat (by_source count)) n)
          (high_opening (beat (by_source count)) (run start_of_list (by_source count)).ended n))
          (sym split_is ∙ ap (λ (e : Seam). e.merge.split) (sym o.seam))
          (subst (λ (p : Progress). GivesBoth mid new count (low_opening p.beat split)
          (high_opening p.beat p.ended split)) (can.sources_are.watches count d within) g));
    }

-- ---- the change

module _ (standing : Standing) (moving new : Between) (next : Next) (split : ℕ)
    (sources : List Source) (begins : BeginsMoving standing next split moving)
    (written : standing.sent.items ≡ [])
    (up : (schemas : List (List Kind)) (plan : Plan) (rows : Rows) (base : ℕ) (given : Lists)
    (got : List Message) (entries : List Entry)
    → Calm standing schemas plan rows base given got entries
    → IsUpToDate schemas plan given standing.output.beat)
    (opens : Opens moving new sources split (length sources)) where
  pub begins-moving : (schemas : List (List Kind)) (query plan after : Plan)
      (earlier : List Plan) (rows : Rows) (before : ℕ) (by_source : Lists) (entries : List Entry)
      → ServesAlone standing schemas query plan rows before by_source entries
      → AreSources schemas by_source sources → MaySplit schemas plan before split by_source
      → IsLike schemas plan after rows → WorksStand next.works schemas after no_messages []
      → ServesMoving new schemas query after (plan ∷ earlier) rows split by_source entries
  begins-moving schemas query plan after earlier rows before by_source entries a are may like
      works =
      let at : split_of moving ≡ split = begins.split_is in
      let ends : AllEndBy schemas plan split by_source = (λ k reads.
      All-weaker (λ (e : Elem). e.span.end < split) (λ (e : Elem). e.span.end ≤ split)
      (λ e l. omega (arith, l)) (elements (by_source k)) (may.above k reads)) in
      let less : All (λ e. e.span.end ≤ split - 1) (results entries) =
      a.ends (split - 1) (λ k reads.
      All-weaker (λ (e : Elem). e.span.end < split) (λ (e : Elem). e.span.end ≤ split - 1)
      (λ e l. omega (arith, l)) (elements (by_source k)) (may.above k reads)) in
      let over : All (λ e. e.span.end < split) (results entries) =
      All-weaker (λ (e : Elem). e.span.end ≤ split - 1) (λ (e : Elem). e.span.end < split)
      (λ e l. omega (arith, l, may.some)) (results entries) less in
      let first : IsMoving moving schemas plan after rows a.base a.given no_messages entries =
      begins.moves schemas plan after rows a.base a.given a.got entries a.calm written
      (λ k reads. parts-end (by_source k) (a.given k) split (a.each k reads).parts (ends k reads))
      (omega (arith, a.based, may.rises)) may.most over like.typed works like.answers in
      let can : CanOpen moving schemas after a.base a.given by_source sources = record {
        sources_are = are;
        each = λ k reads. a.each k ((like.reads k).1 reads);
        some = omega (arith, at, may.some);
        ends = λ k reads. rw at (ends k ((like.reads k).1 reads));
        begun = λ k reads.
            let own : Reads schemas plan k = (like.reads k).1 reads in
            let level = (a.each k own).so_far.beat_is in
            let low = (up schemas plan rows a.base a.given a.got entries a.calm).below k own in
            let start = begins.first_is in
            omega (arith, level, low, start);
      } in
      let done = opens.holds schemas plan after rows a.base a.given by_source entries at can
      (record {
        below = a.given;
        from = no_messages;
        moving = first;
        each = λ k low reads. absurd (omega (arith, low));
        rest = λ k late. (refl, refl);
      }) in
      record {
        before = plan;
        past = earlier;
        earlier_is = refl;
        base = a.base;
        below = done.below;
        from = done.from;
        moving = done.moving;
        split_is = ap (λ (e : Seam). e.merge.split) opens.seam ∙ at;
        reads = like.reads;
        each = λ k reads. done.each k (omega (
          arith,
          reads-within schemas after k like.typed reads,
          sources-counted schemas by_source sources are,
        )) reads;
        alike = a.alike;
        ends = λ instant all. a.ends instant (λ k reads. all k ((like.reads k).0 reads));
      }

opened-to : (a : Between) (y : State) (sources : List Source) (split : ℕ)
    → OpensIn (state.Moving a) y sources split
    → (b : Between) × (y ≡ state.Moving b) × Opens a b sources split (length sources)
opened-to a (state.Moving b) sources split o = (b, refl, o)
opened-to a (state.Alone b) sources split o = absurd o
opened-to a state.Gone sources split o = absurd o

pub begins-live : (old mid new : Live) (next : Next) (split : ℕ)
    → BeginsWith old.state mid.state next split
    → OpensIn mid.state new.state mid.sources.items split → mid.sources ≡ old.sources
    → new.sources ≡ mid.sources → new.split ≡ split → Begins old new next split
begins-live old mid new next split b o same sources split_is =
    let to = opened-to b.moving new.state mid.sources.items split
    (subst (λ (x : State). OpensIn x new.state mid.sources.items split) b.new_is o) in
    record {
      entries = ap entries_in to.1 ∙ to.2.entries ∙ b.begins.entries
          ∙ ap entries_in (sym b.old_is) ∙ sym (append-nil (entries_in old.state));
      beat = ap beat_in to.1 ∙ to.2.beat ∙ b.begins.beat ∙ ap beat_in (sym b.old_is);
      split_is = split_is;
      moving = subst (λ (x : State). IsAlone x → ⊥) (sym to.1) (λ alone. alone);
      holds = λ schemas query plan after earlier rows by_source entries s may like works. record {
        at_work = subst (λ (n : ℕ).
            AtWork new.state schemas query after (plan ∷ earlier) rows n by_source entries)
            (sym split_is)
            (subst (λ (x : State).
            AtWork x schemas query after (plan ∷ earlier) rows split by_source entries)
            (sym to.1)
            (begins-moving b.standing b.moving to.0 next split mid.sources.items b.begins b.written
            b.up_to_date to.2 schemas query plan after earlier rows old.split by_source entries
            (subst (λ (x : State).
            AtWork x schemas query plan earlier rows old.split by_source entries) b.old_is
            s.at_work)
            (rw same s.sources) may like works));
        sources = rw (sources, same) s.sources;
      };
    }
