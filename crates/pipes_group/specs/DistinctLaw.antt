-- A distinct goes on to stand for longer lists, and is lawful.
use Rattle.std.proofs.Common.{◌≡◌, ℕ, ◌≤◌, ◌<◌, ◌+◌, min, Bool, true, false, cond, ◌||◌, zero}
use Rattle.std.proofs.Common.{suc, nat_lt, get_or, append-nil, List, [], ◌∷◌, ◌++◌, map, length}
use Rattle.std.proofs.Common.{Option, Some, None, is_some, refl, sym, ◌∙◌, subst, ap, arith}
use Rattle.std.proofs.Common.{append_assoc}
use Rattle.std.specs.List.{All, filter}
use Rattle.std.specs.Map.{keys_of, lookup}
use Rattle.std.specs.Set.{is_member}
use Rattle.std.proofs.lemmas.Map.Entries.{length-keys_of}
use Rattle.std.proofs.lemmas.Map.Made.{is_some-lookup, length-le_from_is_member, nil_from_lookup}
use Rattle.std.proofs.lemmas.Bool.{lt-ltb}
use Rattle.std.proofs.lemmas.List.Sums.{sum_by-cons}
use Rattle.std.proofs.lemmas.List.Elements.{All-nil, All-cons, All-append}
use Rattle.std.proofs.lemmas.List.Elements.{All-weaker}
use Rattle.pipes_stream.proofs.Following.{arrived-fits}
use Rattle.pipes_stream.proofs.Following.{not_ended}
use Rattle.indexmap.specs.IndexMap.{IndexMap, get, IsUnique}
use Rattle.pipes_time.specs.Interval.{closed}
use Rattle.pipes_tuple.specs.declared.value.Kind.{Kind}
use Rattle.pipes_tuple.specs.Kinds.{Fits}
use Rattle.pipes_tuple.specs.Equal.{tuple_eq}
use Rattle.pipes_tuple.proofs.Equality.{tuple_eq-Decides}
use Rattle.pipes_stream.specs.declared.Elem.{Elem}
use Rattle.pipes_stream.specs.declared.message.Message.{Message}
use Rattle.pipes_stream.specs.declared.message.Message.TheVariants as message
use Rattle.pipes_stream.specs.Progress.{Progress}
use Rattle.pipes_stream.specs.Snapshot.{snapshot}
use Rattle.pipes_stream.specs.Lists.{CanFollow, after, run, start_of_list, beat}
use Rattle.pipes_stream.specs.Lists.{elements}
use Rattle.pipes_stream.specs.Lawful.{Lists, Lawful, Takes, MessageFits, no_messages}
use Rattle.pipes_stream.specs.Lawful.{with_message, least, all_elements, IsCovered, open_count}
use Rattle.pipes_stream.proofs.Messages.{run-push, after-rises, valid-push}
use Rattle.pipes_stream.proofs.Messages.{elements-append, beat-closed, beat-ended}
use Rattle.pipes_stream.proofs.Ports.{floor-below}
use Rattle.pipes_group.specs.declared.coverage.Slot.{Slot}
use Rattle.pipes_group.specs.declared.coverage.Coverage.{Coverage}
use Rattle.pipes_group.specs.declared.distinct.Distinct.{Distinct}
use Rattle.pipes_group.specs.Tasks.{distinct_task}
use Rattle.pipes_group.specs.Dues.{Due}
use Rattle.pipes_group.specs.Covers.{Row, copies, Covered, CoveredBy, IsInOneOf, Lives, LivesTo}
use Rattle.pipes_group.specs.Covers.{CoverReaches, CatchesUp}
use Rattle.pipes_group.specs.CoverLaw.{sent-once, within-none}
use Rattle.pipes_group.specs.Counts.{count-distinct}
use Rattle.pipes_tuple.specs.OrderLaws.{tuple_eq-equivalence}
use Rattle.pipes_group.specs.CoverMoves.{lives-waited, slots-later, reaches-later}
use Rattle.pipes_group.specs.Distincts.{DistinctStands, Lasts}

-- ---- what is held
-- the tuples of the elements that end after an instant
abbrev open_tuples : ℕ → List Elem → List Row
open_tuples now es = map (λ e. e.tuple) (filter (λ e. nat_lt now e.span.end) es)

length-case : (b : Bool) (e : Elem) (es : List Elem)
    → length (map (λ (d : Elem). d.tuple) (cond b (e ∷ es) es))
    ≡ cond {A = ℕ} b 1 0 + length (map (λ (d : Elem). d.tuple) es)
length-case true e es = omega arith
length-case false e es = omega arith

length-open : (now : ℕ) (es : List Elem) → length (open_tuples now es) ≡ open_count now es
length-open now [] = refl
length-open now (e ∷ es) =
    omega (
      arith,
      length-case (nat_lt now e.span.end) e (filter (λ (d : Elem). nat_lt now d.span.end) es),
      sum_by-cons (λ (d : Elem). cond {A = ℕ} (nat_lt now d.span.end) 1 0) e es,
      length-open now es,
    )

or-true : (b : Bool) → (b || true) ≡ true
or-true true = refl
or-true false = refl

member-more : (b : Bool) (e : Elem) (es : List Elem) (q : Row)
    → is_member tuple_eq (map (λ (d : Elem). d.tuple) es) q ≡ true
    → is_member tuple_eq (map (λ (d : Elem). d.tuple) (cond b (e ∷ es) es)) q ≡ true
member-more true e es q h = ap (λ (c : Bool). tuple_eq q e.tuple || c) h
    ∙ or-true (tuple_eq q e.tuple)
member-more false e es q h = h

member-first : (e : Elem) (es : List Elem) (q : Row) → e.tuple ≡ q
    → is_member tuple_eq (map (λ (d : Elem). d.tuple) (e ∷ es)) q ≡ true
member-first e es q h = ap (λ (b : Bool). b || is_member tuple_eq (map (λ (d : Elem). d.tuple) es)
    q)
    ((tuple_eq-Decides q e.tuple).1 (sym h))

member-open : (now : ℕ) (es : List Elem) (d : Elem) (k : ℕ) (q : Row) → k < length es
    → get_or es k d ≡ d → now < d.span.end → d.tuple ≡ q
    → is_member tuple_eq (open_tuples now es) q ≡ true
member-open now [] d k q h is late same = absurd (omega arith)
member-open now (e ∷ es) d zero q h is late same =
    let here : nat_lt now e.span.end ≡ true =
    ap (λ (x : Elem). nat_lt now x.span.end) is ∙ lt-ltb now d.span.end late in
    rw here (member-first e (filter (λ (d : Elem). nat_lt now d.span.end) es) q
    (ap (λ (x : Elem). x.tuple) is ∙ same))
member-open now (e ∷ es) d (suc k) q h is late same =
    member-more (nat_lt now e.span.end) e (filter (λ (d : Elem). nat_lt now d.span.end) es) q
    (member-open now es d k q (omega arith) is late same)

-- each slot is that of an element that has not ended
slot-open : (find : Row → Option Slot) (dues : List Due) (now : ℕ) (taken sent : List Elem)
    → Lives find dues now taken sent
    → ((x : Row) (s : Slot) → find x ≡ Some s → now < s.cover)
    → (q : Row) (o : Option Slot) → find q ≡ o → is_some o ≡ true
    → is_member tuple_eq (open_tuples now taken) q ≡ true
slot-open find dues now taken sent l late q None is h = cc
slot-open find dues now taken sent l late q (Some s) is h =
    let src = (l.backed q s is).source in
    let order : s.cover ≤ s.until =
    (subst (λ (o : Option Slot). CoveredBy q now o taken sent) is (l.covered q)).order in
    let far : s.until ≤ src.0.span.end = src.4 in
    let after : now < s.cover = late q s is in
    member-open now taken src.0 src.1.0 q src.1.1 src.1.2 (omega (arith, order, far, after)) src.2

held-few : {S : Type 0} (table : IndexMap Row Slot S) (dues : List Due) (now : ℕ)
    (taken sent : List Elem) → IsUnique tuple_eq table → Lives (get tuple_eq table) dues now taken
    sent
    → ((x : Row) (s : Slot) → get tuple_eq table x ≡ Some s → now < s.cover)
    → length table.entries ≤ open_count now taken
held-few table dues now taken sent unique l late =
    let some : (q : Row) → is_member tuple_eq (keys_of table.entries) q ≡ true
    → is_member tuple_eq (open_tuples now taken) q ≡ true = λ q h.
    slot-open (get tuple_eq table) dues now taken sent l late q (get tuple_eq table q) refl
    (is_some-lookup (tuple_eq q) table.entries ∙ h) in
    let few = length-le_from_is_member tuple_eq-equivalence (keys_of table.entries)
    (open_tuples now taken) unique some in
    omega (arith, few, length-keys_of table.entries, length-open now taken)

-- nothing is held at the end
no-slot : (find : Row → Option Slot) (dues : List Due) (now : ℕ) (taken sent : List Elem)
    → Lives find dues now taken sent → now ≡ closed
    → ((x : Row) (s : Slot) → find x ≡ Some s → now < s.cover)
    → (q : Row) (o : Option Slot) → find q ≡ o → o ≡ None
no-slot find dues now taken sent l end late q None is = refl
no-slot find dues now taken sent l end late q (Some s) is =
    let order : s.cover ≤ s.until =
    (subst (λ (o : Option Slot). CoveredBy q now o taken sent) is (l.covered q)).order in
    let most : s.until ≤ 1000000000000000 = (l.backed q s is).most in
    let after : now < s.cover = late q s is in
    absurd (omega (arith, order, most, after, end))

distinct-held_none : {S : Type 0} (table : IndexMap Row Slot S) (dues : List Due) (now : ℕ)
    (taken sent : List Elem) → Lives (get tuple_eq table) dues now taken sent → now ≡ closed
    → ((x : Row) (s : Slot) → get tuple_eq table x ≡ Some s → now < s.cover)
    → length table.entries ≡ 0
distinct-held_none table dues now taken sent l end late =
    ap (λ (es : List (Row × Slot)). length es)
    (nil_from_lookup tuple_eq-equivalence table.entries
    (λ q. no-slot (get tuple_eq table) dues now taken sent l end late q (get tuple_eq table q)
    refl))

-- ---- the law
by-once : (x : Row) (now t : ℕ) (o : Option Slot) (taken sent : List Elem)
    → CoveredBy x now o taken sent → ((s : Slot) → o ≡ Some s → now < s.cover) → t < now
    → copies x t sent ≡ min (copies x t taken) 1
by-once x now t None taken sent c late h = sent-once x now now now t taken sent c h
by-once x now t (Some s) taken sent c late h =
    sent-once x now s.cover s.until t taken sent c (omega (arith, h, late s refl))

part-fits : (kinds : List Kind) (taken : List Elem) (x : Row) (a b : ℕ)
    → All (λ e. Fits e.tuple kinds) taken → IsInOneOf taken x a b → Fits x kinds
part-fits kinds taken x a b all p =
    subst (λ (r : Row). Fits r kinds) (ap (λ (e : Elem). e.tuple) p.1.2 ∙ p.2) (all p.1.0 p.0 p.1.1)

pub distinct_lawful : (d : Distinct) (taken : Lists) (sent : List Message)
    → DistinctStands d taken sent
    → Lawful (distinct_task d.schema) taken sent (length d.coverage.table.entries)
distinct_lawful d taken sent s =
    let find = get tuple_eq d.coverage.table in
    let dues = d.coverage.dues in
    let es : List Elem = elements (taken 0) in
    let now : d.watch.beat ≡ beat (taken 0) = ap (λ (p : Progress). p.beat) s.watch_is in
    let as_far : beat sent ≡ beat (taken 0) = ap (λ (p : Progress). p.beat) s.sent_run in
    let low : beat (taken 0) ≤ closed = beat-closed (taken 0) s.taken_valid in
    let one : least 1 taken ≡ beat (taken 0) =
    let m : min (beat (taken 0)) closed ≡ beat (taken 0) = omega (arith, low) in m in
    record {
      valid = s.sent_valid;
      fits = All-weaker (λ (e : Elem). IsInOneOf es e.tuple e.span.start e.span.end)
          (λ (e : Elem). Fits e.tuple d.schema)
          (λ e p. part-fits d.schema es e.tuple e.span.start e.span.end s.taken_fits p)
          (elements sent) s.lives.parts;
      answer = λ t below. record {
        counts = λ y. by-once y d.watch.beat t (find y) es (elements sent) (s.lives.covered y)
            (s.later y) (omega (arith, below, as_far, now)) ∙ sym
            (count-distinct y (snapshot es t));
      };
      below = omega (arith, as_far, one);
      above = let h = floor-below (least 1 taken) (all_elements 1 taken) in omega
          (arith, as_far, one, h);
      prompt = λ lags. as_far ∙ sym one;
      ends = λ h. (
        ap (λ (p : Progress). p.ended) s.sent_run ∙ h 0 (omega arith),
        distinct-held_none d.coverage.table dues d.watch.beat es (elements sent) s.lives
            (now ∙ beat-ended (taken 0) s.taken_valid (h 0 (omega arith))) s.later,
      );
      few = let f = held-few d.coverage.table dues d.watch.beat es (elements sent) s.unique s.lives
          s.later in
          subst (λ (n : ℕ). length d.coverage.table.entries ≤ open_count n es) (now ∙ sym one) f;
      spans = All-weaker (λ (e : Elem). IsInOneOf es e.tuple e.span.start e.span.end) (IsCovered es)
          (λ e p. (p.0, p.1, p.3, p.4)) (elements sent) s.lives.parts;
    }

pub distinct_beat : (d : Distinct) (taken : Lists) (sent : List Message)
    → DistinctStands d taken sent → d.watch.beat ≡ beat sent
distinct_beat d taken sent s = ap (λ (p : Progress). p.beat) (s.watch_is ∙ sym s.sent_run)

-- what is sent last, and what it leaves
record Lasted (end : Coverage) (at : ℕ) (q : Progress) (m last : Message)
    (taken sent : List Elem) : Type 0 where
  pub unique : IsUnique tuple_eq end.table
  pub lives : Lives (get tuple_eq end.table) end.dues at (taken ++ elements (m ∷ []))
      (sent ++ elements (last ∷ []))
  pub later : (x : Row) (s : Slot) → get tuple_eq end.table x ≡ Some s → at < s.cover
  pub follows : CanFollow q last
  pub as_far : (p : Progress) → after p last ≡ after p m

-- where nothing comes
stayed : (mid end : Coverage) (at : ℕ) (q : Progress) (m last : Message) (taken sent : List Elem)
    → end ≡ mid → last ≡ m → elements (m ∷ []) ≡ [] → CanFollow q m → IsUnique tuple_eq mid.table
    → Lives (get tuple_eq mid.table) mid.dues at taken sent
    → ((x : Row) (s : Slot) → get tuple_eq mid.table x ≡ Some s → at < s.cover)
    → Lasted end at q m last taken sent
stayed mid end at q m last taken sent same is none_counted follows unique lives later =
    subst (λ (c : Coverage). Lasted c at q m last taken sent) (sym same)
    (subst (λ (x : Message). Lasted mid at q m x taken sent) (sym is)
    (record {
      unique = unique;
      lives = rw (none_counted, append-nil taken, append-nil sent) lives;
      later = later;
      follows = follows;
      as_far = λ p. refl;
    }))

lasted : (mid end : Coverage) (at : ℕ) (p q : Progress) (m last : Message)
    (taken sent : List Elem) → CanFollow p m → at ≡ (after p m).beat → q.ended ≡ false → q.beat ≤ at
    → Lasts mid end m last → IsUnique tuple_eq mid.table
    → Lives (get tuple_eq mid.table) mid.dues at taken sent
    → ((x : Row) (s : Slot) → get tuple_eq mid.table x ≡ Some s → at < s.cover)
    → Lasted end at q m last taken sent
lasted mid end at p q (message.Elem e) last taken sent w is going at_most lasts unique lives later =
    subst (λ (a : ℕ). Lasted end a q (message.Elem e) last taken sent) (sym is) (record {
      unique = lasts.unique unique;
      lives = lasts.lives taken sent w.2
          (subst (λ (a : ℕ). Lives (get tuple_eq mid.table) mid.dues a taken sent) is lives);
      later = lasts.later w.2 (λ x s h. let a : at < s.cover = later x s h in omega (arith, a, is));
      follows = lasts.may_follow q (going, omega (arith, at_most, is), w.2);
      as_far = lasts.as_far;
    })
lasted mid end at p q (message.Beat b) last taken sent w is going at_most lasts unique lives later =
    stayed mid end at q (message.Beat b) last taken sent lasts.0 lasts.1 refl
    (going, omega (arith, at_most, is), w.2) unique lives later
lasted mid end at p q message.End last taken sent w is going at_most lasts unique lives later =
    stayed mid end at q message.End last taken sent lasts.0 lasts.1 refl going unique lives later

after-alike : (p q : Progress) (m : Message) → q.ended ≡ p.ended → after q m ≡ after p m
after-alike p q (message.Elem e) h =
    ap (λ (b : Bool). let r : Progress = record { beat = e.span.start; ended = b } in r) h
after-alike p q (message.Beat at) h =
    ap (λ (b : Bool). let r : Progress = record { beat = at; ended = b } in r) h
after-alike p q message.End h = refl

distinct-stands_on : (old new : Distinct) (mid : Coverage) (m last : Message)
    (before between : List Message)
    (taken : Lists) (earlier : List Message) → DistinctStands old taken earlier
    → CanFollow (run start_of_list (taken 0)) m → MessageFits m old.schema
    → (CanFollow old.watch m → new.watch ≡ after old.watch m)
    → (moves : CatchesUp old.coverage old.coverage.dues mid new.watch.beat before between)
    → All (λ d. new.watch.beat < d.0) mid.dues → Lasts mid new.coverage m last
    → new.failed ≡ old.failed → new.schema ≡ old.schema
    → DistinctStands new (with_message taken 0 m) (earlier ++ (moves.more ++ last ∷ []))
distinct-stands_on old new mid m last before between taken earlier s w fits watches moves cleared
    lasts
    failed schema =
    let p : Progress = run start_of_list (taken 0) in
    let can : CanFollow old.watch m = subst (λ (x : Progress). CanFollow x m) (sym s.watch_is) w in
    let moved : new.watch ≡ after old.watch m = watches can in
    let at : ℕ = new.watch.beat in
    let at_is : at ≡ (after old.watch m).beat = ap (λ (x : Progress). x.beat) moved in
    let most : beat (taken 0) ≤ closed = beat-closed (taken 0) s.taken_valid in
    let was : old.watch.beat ≡ beat (taken 0) = ap (λ (x : Progress). x.beat) s.watch_is in
    let rose : (old.watch.beat ≤ (after old.watch m).beat) × ((after old.watch m).beat ≤ closed) =
    after-rises old.watch m can (omega (arith, most, was)) in
    let ended : p.ended ≡ false = not_ended p m w in
    let from : CoverReaches old.watch.beat earlier =
    record {
      valid = s.sent_valid;
      going = ap (λ (x : Progress). x.ended) s.sent_run ∙ ended;
      at_most = let e = distinct_beat old taken earlier s in omega (arith, e);
    } in
    let start : LivesTo (get tuple_eq old.coverage.table) old.coverage.dues at (elements (taken 0))
    earlier =
    record {
      now = old.watch.beat;
      upto = omega (arith, rose.0, at_is);
      reaches = from;
      lives =
          s.lives;
    } in
    let went = moves.lives (elements (taken 0)) earlier start in
    let sent : List Message = earlier ++ moves.more in
    let q : Progress = run start_of_list sent in
    let reached : CoverReaches at sent = reaches-later went.now at sent went.upto went.reaches in
    let lives = lives-waited went.now at (get tuple_eq mid.table) mid.dues (elements (taken 0))
    (elements sent) went.upto cleared went.lives in
    let later = slots-later at (get tuple_eq mid.table) mid.dues (elements (taken 0))
    (elements sent) cleared lives in
    let at_most : q.beat ≤ at = reached.at_most in
    let end = lasted mid new.coverage at old.watch q m last (elements (taken 0)) (elements sent) can
    at_is reached.going at_most lasts (moves.unique s.unique) lives later in
    let all : earlier ++ (moves.more ++ last ∷ []) ≡ sent ++ last ∷ [] =
    sym (append_assoc earlier moves.more (last ∷ [])) in
    let ran : run start_of_list (sent ++ last ∷ []) ≡ run start_of_list (taken 0 ++ m ∷ []) =
    run-push start_of_list sent last ∙ end.as_far q ∙ after-alike p q m (reached.going ∙ sym ended)
    ∙ sym (run-push start_of_list (taken 0) m) in
    let fitting : All (λ e. Fits e.tuple old.schema) (elements (taken 0 ++ m ∷ [])) =
    subst (λ (es : List Elem). All (λ e. Fits e.tuple old.schema) es)
    (sym (elements-append (taken 0) (m ∷ [])))
    (All-append (λ (e : Elem). Fits e.tuple old.schema) (elements (taken 0)) (elements (m ∷ []))
    s.taken_fits (arrived-fits m old.schema fits)) in
    subst (λ (ms : List Message). DistinctStands new (with_message taken 0 m) ms) (sym all)
    (record {
      going = failed ∙ s.going;
      taken_valid = valid-push start_of_list (taken 0) m s.taken_valid w;
      taken_fits = subst (λ (k : List Kind). All (λ e. Fits e.tuple k)
          (elements (taken 0 ++ m ∷ []))) (sym schema) fitting;
      watch_is = moved ∙ ap (λ (x : Progress). after x m) s.watch_is
          ∙ sym (run-push start_of_list (taken 0) m);
      sent_valid = valid-push start_of_list sent last reached.valid end.follows;
      sent_run = ran;
      unique = end.unique;
      lives = rw (elements-append (taken 0) (m ∷ []), elements-append sent (last ∷ [])) end.lives;
      later = end.later;
    })

pub distinct_takes : (old new : Distinct) (mid : Coverage) (m last : Message)
    (before between now : List Message)
    → (CanFollow old.watch m → new.watch ≡ after old.watch m)
    → CatchesUp old.coverage old.coverage.dues mid new.watch.beat before between
    → All (λ d. new.watch.beat < d.0) mid.dues → Lasts mid new.coverage m last
    → now ≡ between ++ last ∷ [] → new.failed ≡ old.failed → new.schema ≡ old.schema
    → Takes (distinct_task old.schema) (DistinctStands old) (DistinctStands new) 0 m before now
distinct_takes old new mid m last before between now watches moves cleared lasts appended failed
    schema =
    record {
      sent = moves.more ++ last ∷ [];
      appended = appended ∙ ap (λ (ms : List Message). ms ++ last ∷ []) moves.appended
          ∙ append_assoc before moves.more (last ∷ []);
      stands = λ taken earlier s can.
          distinct-stands_on old new mid m last before between taken earlier s can.follows can.fits
          watches
          moves cleared lasts failed schema;
    }

-- the step of the code, with its instant under a name
pub distinct_step : (old new : Distinct) (mid : Coverage) (m last : Message) (at : ℕ)
    (before between now : List Message)
    → (CanFollow old.watch m → new.watch ≡ after old.watch m) → at ≡ new.watch.beat
    → CatchesUp old.coverage old.coverage.dues mid at before between
    → All (λ d. at < d.0) mid.dues → Lasts mid new.coverage m last
    → now ≡ between ++ last ∷ [] → new.failed ≡ old.failed → new.schema ≡ old.schema
    → Takes (distinct_task old.schema) (DistinctStands old) (DistinctStands new) 0 m before now
distinct_step old new mid m last at before between now watches is moves cleared lasts appended
    failed schema =
    distinct_takes old new mid m last before between now watches
    (subst (λ (t : ℕ). CatchesUp old.coverage old.coverage.dues mid t before between) is moves)
    (subst (λ (t : ℕ). All (λ d. t < d.0) mid.dues) is cleared) lasts appended failed schema

-- before any message
empty-covered : (x : Row) → Covered x 0 0 0 [] []
empty-covered x = record {
  order = omega arith;
  over = λ t h. refl;
  once = λ t. let none : copies x t [] ≡ 0 = refl in omega (arith, within-none 0 t, none);
  solid = λ t a h. absurd (omega arith);
}

pub distinct_new : (d : Distinct) → d.failed ≡ false → d.watch ≡ start_of_list
    → d.coverage.table.entries ≡ [] → d.coverage.dues ≡ [] → IsUnique tuple_eq d.coverage.table
    → DistinctStands d no_messages []
distinct_new d going watch empty dues unique =
    let none : (x : Row) → get tuple_eq d.coverage.table x ≡ None =
    λ x. ap (λ (es : List (Row × Slot)). lookup (tuple_eq x) es) empty in
    record {
      going = going;
      taken_valid = tt;
      taken_fits = All-nil (λ (e : Elem). Fits e.tuple d.schema);
      watch_is = watch;
      sent_valid = tt;
      sent_run = refl;
      unique = unique;
      lives = record {
        covered = λ x.
            subst (λ (o : Option Slot). CoveredBy x d.watch.beat o [] []) (sym (none x))
            (subst (λ (p : Progress). Covered x p.beat p.beat p.beat [] []) (sym watch)
            (empty-covered x));
        backed = λ x s h. absurd (let f : None ≡ Some s = sym (none x) ∙ h in cc);
        queued = λ x s h. absurd (let f : None ≡ Some s = sym (none x) ∙ h in cc);
        parts = All-nil (λ (e : Elem). IsInOneOf [] e.tuple e.span.start e.span.end);
      };
      later = λ x s h. absurd (let f : None ≡ Some s = sym (none x) ∙ h in cc);
    }
