-- Steps of a Coalesce, by the messages that they send.
use Rattle.std.proofs.Common.{◌≡◌, ℕ, ◌+◌, ◌≤◌, ◌<◌, true, false, Result, Ok, Err, List, [], ◌∷◌}
use Rattle.std.proofs.Common.{◌++◌, map, refl, sym, ap, ◌∙◌, subst, arith, append_assoc, append-nil}
use Rattle.std.proofs.Common.{inl, inr, ◌⊎◌}
use Rattle.std.proofs.lemmas.Bool.{cases_lt}
use Rattle.std.specs.Prelude.{OnOk}
use Rattle.pipes_time.specs.Interval.{IsInterval}
use Rattle.pipes_stream.specs.declared.Elem.{Elem}
use Rattle.pipes_stream.specs.declared.message.Message.{Message}
use Rattle.pipes_stream.specs.declared.message.Message.TheVariants as message
use Rattle.pipes_stream.specs.Progress.{Progress}
use Rattle.pipes_stream.specs.Lists.{CanFollow, after, run, start_of_list, Valid, beat, elements}
use Rattle.pipes_stream.proofs.Messages.{run-push, run-append, valid-push, valid-append}
use Rattle.pipes_stream.proofs.Messages.{elements-append, elements-map}
use Rattle.pipes_stream.specs.Weights.{weigh}
use Rattle.pipes_coalesce.specs.Tests.{starts_below, ends_above}
use Rattle.pipes_coalesce.specs.Tests.{starts_elsewhere, is_no_interval}
use Rattle.pipes_coalesce.specs.Stands.{count_of, Parts, Flows, Stays, Moves, SameBut}
use Rattle.pipes_coalesce.proofs.Touching.{else-zero, interval-zero}
use Rattle.pipes_coalesce.specs.declared.merge.Coalesce.{Coalesce}

pub on-ok : {X E P Q : Type 0} (r : Result X E) → (P → Q) → OnOk r P → OnOk r Q
on-ok (Ok x) f h = f h
on-ok (Err e) f h = tt

-- what a step makes of all parts, for any lists and heartbeats, x being what it sends
abbrev pub Sends : Coalesce → Coalesce → List Elem → List Elem → Elem → Type 0
Sends c d w v x =
    (b : ℕ) (os fs ss : List Elem)
    → Parts c.split c.old_watch.beat c.fresh_watch.beat b c.lone_start w c.lone c.partners c.later
    os fs ss
    → (b ≤ x.span.start) × IsInterval x.span.start x.span.end
    × Parts c.split c.old_watch.beat c.fresh_watch.beat x.span.start d.lone_start v d.lone
    d.partners d.later os fs (ss ++ x ∷ [])

abbrev pub Keeps : Coalesce → Coalesce → List Elem → List Elem → Type 0
Keeps c d w v =
    (b : ℕ) (os fs ss : List Elem)
    → Parts c.split c.old_watch.beat c.fresh_watch.beat b c.lone_start w c.lone c.partners c.later
    os fs ss
    → Parts c.split c.old_watch.beat c.fresh_watch.beat b d.lone_start v d.lone d.partners d.later
    os fs ss

-- other lists of the same Coalesce
pub flows-other : (c d : Coalesce) (w v : List Elem) (olds fresh sent now : List Message)
    → Stays c d → Flows c w olds fresh sent → Valid now
    → (run start_of_list now).ended ≡ false
    → Parts c.split c.old_watch.beat c.fresh_watch.beat
    (beat now) d.lone_start v d.lone d.partners d.later (elements olds) (elements fresh)
    (elements now)
    → Flows d v olds fresh now
flows-other c d w v olds fresh sent now y f valid going parts = record {
  going = y.failed ∙ f.going;
  old_valid = f.old_valid;
  fresh_valid = f.fresh_valid;
  old_watch = y.old_watch ∙ f.old_watch;
  fresh_watch = y.fresh_watch ∙ f.fresh_watch;
  old_low = rw y.split f.old_low;
  fresh_high = rw y.split f.fresh_high;
  sent_valid = valid;
  unended = going;
  parts = rw (y.split, y.old_watch, y.fresh_watch) parts;
}

-- one element is sent
pub flows-one : (c d : Coalesce) (w v : List Elem) (x : Elem) (olds fresh sent : List Message)
    → Stays c d → Sends c d w v x → Flows c w olds fresh sent
    → Flows d v olds fresh (sent ++ message.Elem x ∷ [])
flows-one c d w v x olds fresh sent y sends f =
    let s = sends (beat sent) (elements olds) (elements fresh) (elements sent) f.parts in
    let run-is = run-push start_of_list sent (message.Elem x) in
    let there : beat (sent ++ message.Elem x ∷ []) ≡ x.span.start =
    ap (λ (p : Progress). p.beat) run-is in
    let elems : elements (sent ++ message.Elem x ∷ []) ≡ elements sent ++ x ∷ [] =
    elements-append sent (message.Elem x ∷ []) in
    flows-other c d w v olds fresh sent (sent ++ message.Elem x ∷ []) y f
    (valid-push start_of_list sent (message.Elem x) f.sent_valid (f.unended, s.0, s.1))
    (ap (λ (p : Progress). p.ended) run-is ∙ f.unended)
    (rw (there, elems) s.2)

abbrev pub moves-one : (c d : Coalesce) (w v : List Elem) (x : Elem) (before now : List Message)
    → Stays c d → now ≡ before ++ message.Elem x ∷ []
    → Sends c d w v x → (c.split < c.fresh_watch.beat → c.lone ≡ [] → d.lone ≡ [])
    → Moves c d w v before now
moves-one c d w v x before now y is sends opened = record {
  stays = y;
  more = message.Elem x ∷ [];
  appended = is;
  flows = λ olds fresh sent f. flows-one c d w v x olds fresh sent y sends f;
  opened = opened;
}

-- nothing is sent
abbrev pub moves-none : (c d : Coalesce) (w v : List Elem) (before now : List Message) → Stays c d
    → now ≡ before → Keeps c d w v
    → (c.split < c.fresh_watch.beat → c.lone ≡ [] → d.lone ≡ []) → Moves c d w v before now
moves-none c d w v before now y is keeps opened = record {
  stays = y;
  more = [];
  appended = is ∙ sym (append-nil before);
  flows = λ olds fresh sent f.
      subst (λ (ms : List Message). Flows d v olds fresh ms) (sym (append-nil sent))
      (flows-other c d w v olds fresh sent sent y f f.sent_valid f.unended
      (keeps (beat sent) (elements olds) (elements fresh) (elements sent) f.parts));
  opened = opened;
}

pub stays-then : (c d e : Coalesce) → Stays c d → Stays d e → Stays c e
stays-then c d e a b = record {
  split = b.split ∙ a.split;
  failed = b.failed ∙ a.failed;
  old_watch = b.old_watch ∙ a.old_watch;
  fresh_watch = b.fresh_watch ∙ a.fresh_watch;
}

-- one step after another
abbrev pub moves-then : (c d e : Coalesce) (w v u : List Elem) (before mid now : List Message)
    → Moves c d w v before mid → Moves d e v u mid now → Moves c e w u before now
moves-then c d e w v u before mid now a b = record {
  stays = stays-then c d e a.stays b.stays;
  more = a.more ++ b.more;
  appended = b.appended ∙ ap (λ (ms : List Message). ms ++ b.more) a.appended
      ∙ append_assoc before a.more b.more;
  flows = λ olds fresh sent f.
      subst (λ (ms : List Message). Flows e u olds fresh ms) (append_assoc sent a.more b.more)
      (b.flows olds fresh (sent ++ a.more) (a.flows olds fresh sent f));
  opened = λ h k. b.opened (rw (a.stays.split, a.stays.fresh_watch) h) (a.opened h k);
}

-- from a state that is the same
pub moves-from : (c e d : Coalesce) (w v : List Elem) (before now : List Message) → SameBut c e
    → Moves e d w v before now → Moves c d w v before now
moves-from c e d w v before now same m = record {
  stays = stays-then c e d same.stays m.stays;
  more = m.more;
  appended = m.appended;
  flows = λ olds fresh sent f. m.flows olds fresh sent
      (flows-other c e w w olds fresh sent sent same.stays f f.sent_valid f.unended
      (rw (same.lone_start, same.lone, same.partners, same.later) f.parts));
  opened = λ h k. m.opened (rw (same.stays.split, same.stays.fresh_watch) h) (same.lone ∙ k);
}

pub stays-itself : (c : Coalesce) → Stays c c
stays-itself c = record { split = refl; failed = refl; old_watch = refl; fresh_watch = refl }

abbrev pub moves-itself : (c : Coalesce) (w : List Elem) (before : List Message)
    → Moves c c w w before before
moves-itself c w before = moves-none c c w w before before (stays-itself c) refl (λ b os fs ss p. p)
    (λ h k. k)

-- ---- elements of one start
pub record Many (s : ℕ) (p : Progress) (xs : List Elem) : Type 0 where
  pub valid : Rattle.pipes_stream.specs.Lists.ValidFrom p (map message.Elem xs)
  pub ended : (run p (map message.Elem xs)).ended ≡ false
  pub none : count_of xs ≡ 0 → (run p (map message.Elem xs)).beat ≡ p.beat
  pub some : 0 < count_of xs → (run p (map message.Elem xs)).beat ≡ s

pub many : (s : ℕ) (p : Progress) (xs : List Elem) → p.ended ≡ false → p.beat ≤ s
    → weigh (starts_elsewhere s) xs ≡ 0 → weigh is_no_interval xs ≡ 0 → Many s p xs
many s p [] going low at are =
    record { valid = tt; ended = going; none = λ _. refl; some = λ n. absurd (omega (arith, n)) }
many s p (x ∷ xs) going low at are =
    let start : x.span.start ≡ s = else-zero x.span.start s (omega (arith, at)) in
    let i = interval-zero x.span.start x.span.end (omega (arith, are)) in
    let m = many s (after p (message.Elem x)) xs going (omega (arith, start)) (omega (arith, at))
    (omega (arith, are)) in
    record {
      valid = ((going, omega (arith, start, low), i), m.valid);
      ended = m.ended;
      none = λ n. absurd (omega (arith, n));
      some = λ _. last m (cases_lt 0 (count_of xs)) start;
    }
  where
    last : Many s (after p (message.Elem x)) xs → (0 < count_of xs) ⊎ (count_of xs ≤ 0)
        → x.span.start ≡ s → (run (after p (message.Elem x)) (map message.Elem xs)).beat ≡ s
    last m (inl h) start = m.some h
    last m (inr h) start = m.none (omega (arith, h)) ∙ start

-- what a step makes of all parts, where it sends elements that all start at s
pub record ManyGo (c d : Coalesce) (w v xs : List Elem) (s b : ℕ)
    (os fs ss : List Elem) : Type 0 where
  pub low : b ≤ s
  pub at : weigh (starts_elsewhere s) xs ≡ 0
  pub are : weigh is_no_interval xs ≡ 0
  pub parts : Parts c.split c.old_watch.beat c.fresh_watch.beat s d.lone_start v d.lone d.partners
      d.later os fs (ss ++ xs)

pub record SendsMany (c d : Coalesce) (w v xs : List Elem) (s : ℕ) : Type 0 where
  pub none : count_of xs ≡ 0 → Keeps c d w v
  pub some : 0 < count_of xs → (b : ℕ) (os fs ss : List Elem)
      → Parts c.split c.old_watch.beat c.fresh_watch.beat b c.lone_start w c.lone c.partners
      c.later os fs ss → ManyGo c d w v xs s b os fs ss

pub none-is : (xs : List Elem) → count_of xs ≡ 0 → xs ≡ []
none-is [] h = refl
none-is (x ∷ xs) h = absurd (omega (arith, h))

pub flows-many : (c d : Coalesce) (w v xs : List Elem) (s : ℕ) (olds fresh sent : List Message)
    → Stays c d → SendsMany c d w v xs s → Flows c w olds fresh sent
    → Flows d v olds fresh (sent ++ map message.Elem xs)
flows-many c d w v xs s olds fresh sent y sends f = by (cases_lt 0 (count_of xs))
  where
    by : (0 < count_of xs) ⊎ (count_of xs ≤ 0) → Flows d v olds fresh (sent ++ map message.Elem xs)
    by (inr h) =
        let none = none-is xs (omega (arith, h)) in
        subst (λ (es : List Elem). Flows d v olds fresh (sent ++ map message.Elem es)) (sym none)
        (subst (λ (ms : List Message). Flows d v olds fresh ms) (sym (append-nil sent))
        (flows-other c d w v olds fresh sent sent y f f.sent_valid f.unended
        (sends.none (omega (arith, h)) (beat sent) (elements olds) (elements fresh)
        (elements sent) f.parts)))
    by (inl h) =
        let go = sends.some h (beat sent) (elements olds) (elements fresh)
        (elements sent) f.parts in
        let m = many s (run start_of_list sent) xs f.unended go.low go.at go.are in
        let run-is = run-append start_of_list sent (map message.Elem xs) in
        let there : beat (sent ++ map message.Elem xs) ≡ s = ap (λ (p : Progress). p.beat) run-is
        ∙ m.some h in
        let elems : elements (sent ++ map message.Elem xs) ≡ elements sent ++ xs =
        elements-append sent (map message.Elem xs)
        ∙ ap (λ (es : List Elem). elements sent ++ es) (elements-map xs) in
        flows-other c d w v olds fresh sent (sent ++ map message.Elem xs) y f
        (valid-append start_of_list sent (map message.Elem xs) f.sent_valid m.valid)
        (ap (λ (p : Progress). p.ended) run-is ∙ m.ended)
        (rw (there, elems) go.parts)

abbrev pub moves-many : (c d : Coalesce) (w v xs : List Elem) (s : ℕ) (before now : List Message)
    → Stays c d → now ≡ before ++ map message.Elem xs → SendsMany c d w v xs s
    → (c.split < c.fresh_watch.beat → c.lone ≡ [] → d.lone ≡ []) → Moves c d w v before now
moves-many c d w v xs s before now y is sends opened = record {
  stays = y;
  more = map message.Elem xs;
  appended = is;
  flows = λ olds fresh sent f. flows-many c d w v xs s olds fresh sent y sends f;
  opened = opened;
}
