-- What a Coalesce stands for is merged.
use Rattle.std.proofs.Common.{◌≡◌, ℕ, ◌+◌, ◌≤◌, ◌<◌, max, min, Bool, true, false, cond, eqb, nat_le}
use Rattle.std.proofs.Common.{nat_lt, ◌&&◌, List, [], ◌∷◌, ◌++◌, map, length, filter, refl, sym, ap}
use Rattle.std.proofs.Common.{◌∙◌, subst, arith, inl, inr, ◌⊎◌, not, append_assoc}
use Rattle.std.proofs.lemmas.List.{length-append}
use Rattle.std.proofs.lemmas.Bool.{cases_lt}
use Rattle.std.proofs.lemmas.Bool.Decides.{nat_tests}
use Rattle.pipes_time.specs.Interval.{closed, horizon, IsInterval}
use Rattle.pipes_tuple.specs.declared.value.Value.{Value}
use Rattle.pipes_tuple.specs.Equal.{tuple_eq}
use Rattle.pipes_tuple.specs.Bag.{count, SameBag}
use Rattle.pipes_tuple.proofs.Bags.{count-cons}
use Rattle.pipes_stream.specs.declared.Elem.{Elem}
use Rattle.pipes_stream.specs.declared.message.Message.{Message}
use Rattle.pipes_stream.specs.declared.message.Message.TheVariants as message
use Rattle.pipes_stream.specs.Progress.{Progress}
use Rattle.pipes_stream.specs.Snapshot.{is_held, snapshot}
use Rattle.pipes_stream.specs.Lists.{after, run, start_of_list, ValidFrom, Valid, beat, HasEnded}
use Rattle.pipes_stream.specs.Lists.{elements}
use Rattle.pipes_stream.proofs.Messages.{beat-closed, beat-ended}
use Rattle.pipes_stream.specs.Weights.{weigh}
use Rattle.pipes_coalesce.specs.Bags.{SameMembers}
use Rattle.pipes_coalesce.specs.Tests.{if_so, starts_below, starts_above, starts_by}
use Rattle.pipes_coalesce.specs.Tests.{starts_elsewhere, ends_above, ends_at, ends_elsewhere}
use Rattle.pipes_coalesce.specs.Tests.{goes_by, waits_below, is_no_interval, touch, touching}
use Rattle.pipes_coalesce.specs.Filed.{FirstElsewhere}
use Rattle.pipes_coalesce.specs.Merging.{Pairing, IsPairing, ArePairings, below_split, above_split}
use Rattle.pipes_coalesce.specs.Merging.{across, Bags}
use Rattle.pipes_coalesce.specs.Merged.{Outcome, Merged, SameAt, least_start}
use Rattle.pipes_coalesce.specs.Stands.{ElemsRiseFrom, count_of, lone_from, now_of, held_of, Parts}
use Rattle.pipes_coalesce.specs.Stands.{CoalesceStands}
use Rattle.pipes_coalesce.specs.declared.merge.Coalesce.{Coalesce}
use Rattle.pipes_stream.proofs.Weights.{weigh-append, weigh-same, weigh-le}
use Rattle.pipes_coalesce.proofs.Touching.{not-lt, lt-zero, not-le, le-zero, else-zero, no-interval}
use Rattle.pipes_coalesce.proofs.Touching.{interval-zero, zero-of, none-weighs, above-else}
use Rattle.pipes_coalesce.proofs.Steps.{all-of, rises-below}
use Rattle.pipes_coalesce.proofs.Settling.{none-there}

-- ---- sums of filtered and mapped lists
module _ {X : Type 0} where
  pick : (f : X → ℕ) (b : Bool) (x : X) (xs : List X)
      → weigh f (cond b (x ∷ xs) xs) ≡ cond b (f x) 0 + weigh f xs
  pick f true x xs = refl
  pick f false x xs = omega arith

  weigh-filter : (f : X → ℕ) (test : X → Bool) (xs : List X)
      → weigh f (filter test xs) ≡ weigh (λ x. cond (test x) (f x) 0) xs
  weigh-filter f test [] = refl
  weigh-filter f test (x ∷ xs) =
      omega (arith, pick f (test x) x (filter test xs), weigh-filter f test xs)

module _ {X Y : Type 0} where
  weigh-map : (f : Y → ℕ) (g : X → Y) (xs : List X) → weigh f (map g xs) ≡ weigh (λ x. f (g x)) xs
  weigh-map f g [] = refl
  weigh-map f g (x ∷ xs) = omega (arith, weigh-map f g xs)

-- ---- intervals
rises-intervals : (b : ℕ) (es : List Elem) → ElemsRiseFrom b es → weigh is_no_interval es ≡ 0
rises-intervals b [] r = refl
rises-intervals b (e ∷ es) r =
    omega (arith, no-interval e.span.start e.span.end r.1, rises-intervals e.span.start es r.2)

valid-intervals : (p : Progress) (ms : List Message) → ValidFrom p ms
    → weigh is_no_interval (elements ms) ≡ 0
valid-intervals p [] v = refl
valid-intervals p (message.Elem e ∷ ms) v =
    omega (
      arith,
      no-interval e.span.start e.span.end v.0.2,
      valid-intervals (after p (message.Elem e)) ms v.1,
    )
valid-intervals p (message.Beat at ∷ ms) v = valid-intervals (after p (message.Beat at)) ms v.1
valid-intervals p (message.End ∷ ms) v = valid-intervals (after p message.End) ms v.1

-- each element lies below the split, from it on, or across it
three : (s e t x : ℕ) → s < e
    → x ≡ cond (nat_le e t) x 0 + (cond (nat_le t s) x 0 + cond (nat_lt s t && nat_lt t e) x 0)
three s e t x h = grind (arith, nat_tests)

weigh-three : (t : ℕ) (f : Elem → ℕ) (es : List Elem) → weigh is_no_interval es ≡ 0
    → weigh f es ≡ weigh (below_split t f) es + (weigh (above_split t f) es + weigh (across t f) es)
weigh-three t f [] z = refl
weigh-three t f (e ∷ es) z =
    let i = interval-zero e.span.start e.span.end (omega (arith, z)) in
    omega (arith, three e.span.start e.span.end t (f e) i.0, weigh-three t f es (omega (arith, z)))

-- ---- snapshots
held-at : ℕ → List Value → Elem → ℕ
held-at t tuple e = cond (is_held e.span t) (if_so (tuple_eq e.tuple tuple)) 0

count-held : (b : Bool) (tuple : List Value) (e : Elem) (rows : List (List Value))
    → count tuple (cond b (e.tuple ∷ rows) rows) ≡ cond b
    (if_so (tuple_eq e.tuple tuple)) 0 + count tuple rows
count-held true tuple e rows = count-cons tuple e.tuple rows
count-held false tuple e rows = omega arith

map-held : (b : Bool) (e : Elem) (es : List Elem)
    → map (λ (x : Elem). x.tuple) (cond b (e ∷ es) es) ≡ cond b
    (e.tuple ∷ map (λ (x : Elem). x.tuple) es) (map (λ (x : Elem). x.tuple) es)
map-held true e es = refl
map-held false e es = refl

count-snapshot : (t : ℕ) (tuple : List Value) (es : List Elem)
    → count tuple (snapshot es t) ≡ weigh (held-at t tuple) es
unfolding held-at
count-snapshot t tuple [] = refl
count-snapshot t tuple (e ∷ es) =
    let rest : List Elem = filter (λ (x : Elem). is_held x.span t) es in
    let a = ap (count tuple) (map-held (is_held e.span t) e rest) in
    let b = count-held (is_held e.span t) tuple e (snapshot es t) in
    omega (arith, a, b, count-snapshot t tuple es)

same-bag : (t : ℕ) (xs ys : List Elem)
    → ((tuple : List Value) → weigh (held-at t tuple) xs ≡ weigh (held-at t tuple) ys)
    → SameBag (snapshot xs t) (snapshot ys t)
same-bag t xs ys w =
    record {
      counts = λ tuple. count-snapshot t tuple xs ∙ w tuple
          ∙ sym (count-snapshot t tuple ys);
    }

-- a pair that became one is held as its parts were
joint-held : (t split a b c x : ℕ) → a < split → split < c
    → cond (nat_le a t && nat_lt t c) x 0 ≡ cond (nat_le a t && nat_lt t split) x 0 + cond
    (nat_le split t && nat_lt t c) x 0
joint-held t split a b c x h k = grind (arith, nat_tests)

pairs-held : (t split : ℕ) (tuple : List Value) (ps : List Pairing) → ArePairings split ps
    → weigh (λ (p : Pairing). is_no_interval p.first) ps ≡ 0
    → weigh (λ (p : Pairing). is_no_interval p.second) ps ≡ 0
    → weigh (λ (p : Pairing). held-at t tuple p.both) ps ≡ weigh
    (λ (p : Pairing). held-at t tuple p.first) ps + weigh
    (λ (p : Pairing). held-at t tuple p.second) ps
unfolding held-at
pairs-held t split tuple [] h z w = refl
pairs-held t split tuple (p ∷ ps) h z w =
    let i = interval-zero p.first.span.start p.first.span.end (omega (arith, z)) in
    let j = interval-zero p.second.span.start p.second.span.end (omega (arith, w)) in
    let more = pairs-held t split tuple ps h.1 (omega (arith, z)) (omega (arith, w)) in
    omega (arith, one p h.0 i.0 j.0, more)
  where
    one : (p : Pairing) → IsPairing split p → p.first.span.start < p.first.span.end
        → p.second.span.start < p.second.span.end
        → held-at t tuple p.both ≡ held-at t tuple p.first + held-at t tuple p.second
    one p h i j =
        let a = joint-held t split p.first.span.start split p.second.span.end
        (if_so (tuple_eq p.first.tuple tuple)) (omega (arith, i, h.ends))
        (omega (arith, j, h.starts)) in
        rw (h.tuple, h.start, h.end, h.ends, h.starts, h.tuples) a

-- what is held of all is held of the sides
total : (t split : ℕ) (tuple : List Value) (os fs all : List Elem) → Bags split os fs all
    → weigh is_no_interval os ≡ 0 → weigh is_no_interval fs ≡ 0
    → weigh is_no_interval all ≡ 0
    → weigh (held-at t tuple) all ≡ weigh (held-at t tuple) os + weigh (held-at t tuple) fs
total t split tuple os fs all s i j k =
    let f = held-at t tuple in
    let z : weigh (λ (p : Pairing). is_no_interval p.first) s.pairs ≡ 0 =
    omega (arith, s.old_side is_no_interval, i) in
    let w : weigh (λ (p : Pairing). is_no_interval p.second) s.pairs ≡ 0 =
    omega (arith, s.fresh_side is_no_interval, j) in
    omega (
      arith,
      weigh-three split (held-at t tuple) all k,
      s.old_side (held-at t tuple),
      s.fresh_side (held-at t tuple),
      s.merged (held-at t tuple),
      pairs-held t split tuple s.pairs s.pairings z w,
    )

-- what isn't held yet, or not any more
before-start : (t s e x : ℕ) → if_so (nat_le s t) ≡ 0 → cond (nat_le s t && nat_lt t e) x 0 ≡ 0
before-start t s e x h = grind (arith, nat_tests)

held-zero : (t b : ℕ) (tuple : List Value) (es : List Elem) → t < b → weigh (starts_below b) es ≡ 0
    → weigh (held-at t tuple) es ≡ 0
unfolding held-at
held-zero t b tuple [] h z = refl
held-zero t b tuple (e ∷ es) h z =
    let k : b ≤ e.span.start = lt-zero e.span.start b (omega (arith, z)) in
    omega (
      arith,
      before-start t e.span.start e.span.end (if_so (tuple_eq e.tuple tuple))
          (not-le e.span.start t (omega (arith, h, k))),
      held-zero t b tuple es h (omega (arith, z)),
    )

after-end : (t s e x : ℕ) → e ≤ t → cond (nat_le s t && nat_lt t e) x 0 ≡ 0
after-end t s e x h = grind (arith, nat_tests)

ended-zero : (t b : ℕ) (tuple : List Value) (es : List Elem) → b ≤ t → weigh (ends_above b) es ≡ 0
    → weigh (held-at t tuple) es ≡ 0
unfolding held-at
ended-zero t b tuple [] h z = refl
ended-zero t b tuple (e ∷ es) h z =
    let k : e.span.end ≤ b = lt-zero b e.span.end (omega (arith, z)) in
    omega (
      arith,
      after-end t e.span.start e.span.end (if_so (tuple_eq e.tuple tuple))
          (omega (arith, h, k)),
      ended-zero t b tuple es h (omega (arith, z)),
    )

-- ---- the outcome
outcome-of : (split : ℕ) (os fs all : List Elem) → Bags split os fs all
    → weigh is_no_interval all ≡ 0 → Outcome split os fs all
outcome-of split os fs all s k =
    let lows : List Elem = filter (λ (e : Elem). nat_le e.span.end split) all in
    let highs : List Elem = filter (λ (e : Elem). nat_le split e.span.start) all in
    let firsts : List Elem = map (λ (p : Pairing). p.first) s.pairs in
    let seconds : List Elem = map (λ (p : Pairing). p.second) s.pairs in
    let boths : List Elem = map (λ (p : Pairing). p.both) s.pairs in
    record {
      pairs = s.pairs;
      pairings = s.pairings;
      loose_old = lows;
      loose_fresh = highs;
      from_old = λ f.
          omega (
            arith,
            weigh-append f lows firsts,
            weigh-filter f (λ (e : Elem). nat_le e.span.end split) all,
            weigh-map f (λ (p : Pairing). p.first) s.pairs,
            s.old_side f,
          );
      from_fresh = λ f.
          omega (
            arith,
            weigh-append f highs seconds,
            weigh-filter f (λ (e : Elem). nat_le split e.span.start) all,
            weigh-map f (λ (p : Pairing). p.second) s.pairs,
            s.fresh_side f,
          );
      into = λ f.
          omega (
            arith,
            weigh-append f lows (highs ++ boths),
            weigh-append f highs boths,
            weigh-filter f (λ (e : Elem). nat_le e.span.end split) all,
            weigh-filter f (λ (e : Elem). nat_le split e.span.start) all,
            weigh-map f (λ (p : Pairing). p.both) s.pairs,
            s.merged f,
            weigh-three split f all k,
          );
    }

-- ---- what is held, by its lists
module _ (c : Coalesce) (olds fresh sent : List Message)
    (s : CoalesceStands c olds fresh sent) where
  abbrev os : List Elem
  os = elements olds

  abbrev fs : List Elem
  fs = elements fresh

  abbrev ss : List Elem
  ss = elements sent

  abbrev rest : List Elem
  rest = c.olds ++ (c.lone ++ (c.partners ++ c.later))

  abbrev b : ℕ
  b = beat sent

  split-of : (f : Elem → ℕ)
      → weigh f rest ≡ weigh f c.olds + (weigh f c.lone + (weigh f c.partners + weigh f c.later))
  split-of f = omega (arith, all-of f [] c.olds c.lone c.partners c.later)

  spans-rest : weigh is_no_interval rest ≡ 0
  spans-rest =
      let p = s.parts in
      omega (
        arith,
        split-of is_no_interval,
        rises-intervals b c.olds p.olds_rise,
        p.lone_are,
        p.partners_are,
        rises-intervals b c.later p.later_rise,
      )

  spans-all : weigh is_no_interval (ss ++ rest) ≡ 0
  spans-all = omega (
    arith,
    weigh-append is_no_interval ss rest,
    valid-intervals start_of_list sent s.sent_valid,
    spans-rest,
  )

  total-held : (t : ℕ) (tuple : List Value)
      → weigh (held-at t tuple) ss + weigh (held-at t tuple) rest ≡ weigh
      (held-at t tuple) os + weigh (held-at t tuple) fs
  total-held t tuple =
      omega (
        arith,
        total t c.split tuple os fs (ss ++ rest) s.parts.bags
            (valid-intervals start_of_list olds s.old_valid)
            (valid-intervals start_of_list fresh s.fresh_valid)
            spans-all,
        weigh-append (held-at t tuple) ss rest,
      )

  -- what is held starts no earlier than what was sent is far
  rises-late : (n m : ℕ) (es : List Elem) → n ≤ m → ElemsRiseFrom m es
      → weigh (starts_below n) es ≡ 0
  rises-late n m [] h r = refl
  rises-late n m (e ∷ es) h r =
      omega (
        arith,
        not-lt e.span.start n (omega (arith, h, r.0)),
        rises-late n e.span.start es (omega (arith, h, r.0)) r.2,
      )

  all-start : (n m : ℕ) (es : List Elem) → n ≤ m → weigh (starts_elsewhere m) es ≡ 0
      → weigh (starts_below n) es ≡ 0
  all-start n m [] h z = refl
  all-start n m (e ∷ es) h z =
      let at : e.span.start ≡ m = else-zero e.span.start m (omega (arith, z)) in
      omega (
        arith,
        not-lt e.span.start n (omega (arith, h, at)),
        all-start n m es h (omega (arith, z)),
      )

  some-of : (es : List Elem) → (es ≡ []) ⊎ (0 < count_of es)
  some-of [] = inl refl
  some-of (x ∷ xs) = inr (omega arith)

  late : weigh (starts_below b) rest ≡ 0
  late =
      let p = s.parts in
      omega (
        arith,
        split-of (starts_below b),
        rises-late b b c.olds (omega arith) p.olds_rise,
        lone (some-of c.lone),
        partners (some-of c.partners),
        rises-late b b c.later (omega arith) p.later_rise,
      )
    where
      lone : (c.lone ≡ []) ⊎ (0 < count_of c.lone) → weigh (starts_below b) c.lone ≡ 0
      lone (inl none) = ap (weigh (starts_below b)) none
      lone (inr some) = all-start b c.lone_start c.lone (s.parts.lone_low some).0 s.parts.lone_at

      partners : (c.partners ≡ []) ⊎ (0 < count_of c.partners)
          → weigh (starts_below b) c.partners ≡ 0
      partners (inl none) = ap (weigh (starts_below b)) none
      partners (inr some) =
          all-start b c.split c.partners (s.parts.partners_low some) s.parts.partners_at

  -- nothing is held where the lists are empty
  none-held : held_of c ≡ 0 → rest ≡ []
  none-held h = by c.olds c.lone c.partners c.later h
    where
      by : (ws xs ys zs : List Elem) → length ws + (length xs + (length ys + length zs)) ≡ 0
          → ws ++ (xs ++ (ys ++ zs)) ≡ []
      by [] [] [] [] h = refl
      by [] [] [] (z ∷ zs) h = absurd (omega arith)
      by [] [] (y ∷ ys) zs h = absurd (omega arith)
      by [] (x ∷ xs) ys zs h = absurd (omega arith)
      by (w ∷ ws) xs ys zs h = absurd (omega arith)

  held-none : c.olds ≡ [] → c.lone ≡ [] → c.partners ≡ [] → c.later ≡ [] → held_of c ≡ 0
  held-none h i j k = rw (h, i, j, k) refl

  old-beat : c.old_watch.beat ≡ beat olds
  old-beat = ap (λ (p : Progress). p.beat) s.old_watch

  fresh-beat : c.fresh_watch.beat ≡ beat fresh
  fresh-beat = ap (λ (p : Progress). p.beat) s.fresh_watch

  -- ---- snapshots
  below-at : (t : ℕ) → weigh (starts_below c.split) fs ≡ 0 → t < c.split
      → ((tuple : List Value) → weigh (held-at t tuple) rest ≡ 0) → SameAt t sent olds
  below-at t z h none =
      same-bag t ss os
      (λ tuple. omega (arith, total-held t tuple, none tuple, held-zero t c.split tuple fs h z))

  from-at : (t : ℕ) → c.split ≤ t → ((tuple : List Value) → weigh (held-at t tuple) rest ≡ 0)
      → SameAt t sent fresh
  from-at t h none =
      same-bag t ss fs
      (λ tuple. omega
      (arith, total-held t tuple, none tuple, ended-zero t c.split tuple os h s.old_low))

  -- ---- the heartbeat
  waits-at : (n t x y : ℕ) → if_so (eqb x t && nat_lt y n) ≡ 0 → x ≡ t → n ≤ y
  waits-at n t x y h e = grind (arith, nat_tests)

  low-waits : (t n x y : ℕ)
      → cond {A = ℕ} (nat_le x t) (if_so (eqb x t && nat_lt y n)) 0 ≡ if_so (eqb x t && nat_lt y n)
  low-waits t n x y = grind (arith, nat_tests)

  lone-from : (n : ℕ) (xs : List Elem) (at : ℕ) → n ≤ closed → weigh (waits_below c.split n) xs ≡ 0
      → weigh (ends_elsewhere c.split) xs ≡ 0
      → weigh (starts_elsewhere at) xs ≡ 0 → n ≤ lone_from xs at
  lone-from n [] at h z w v = h
  lone-from n (x ∷ xs) at h z w v =
      let end : x.span.end ≡ c.split = else-zero x.span.end c.split (omega (arith, w)) in
      let start : x.span.start ≡ at = else-zero x.span.start at (omega (arith, v)) in
      omega (arith, start, waits-at n c.split x.span.end x.span.start (omega (arith, z)) end)

  beat-from : (n : ℕ) → n ≤ beat olds → n ≤ max c.split (beat fresh)
      → (beat fresh ≤ c.split → weigh (waits_below c.split n) os ≡ 0) → n ≤ b
  beat-from n h k z =
      omega (
        arith,
        s.sent_beat,
        old-beat,
        fresh-beat,
        h,
        k,
        by (cases_lt c.split c.fresh_watch.beat),
      )
    where
      n-closed : n ≤ closed
      n-closed = omega (arith, h, beat-closed olds s.old_valid)

      by : (c.split < c.fresh_watch.beat) ⊎ (c.fresh_watch.beat ≤ c.split)
          → n ≤ lone_from c.lone c.lone_start
      by (inl q) =
          let e : lone_from c.lone c.lone_start ≡ closed =
          ap (λ (es : List Elem). lone_from es c.lone_start) (s.settled.opened q) in
          omega (arith, e, n-closed)
      by (inr q) =
          let f = waits_below c.split n in
          let w : weigh f os ≡ 0 = z (omega (arith, q, fresh-beat)) in
          let l : weigh (below_split c.split f) (ss ++ rest) ≡ weigh f (ss ++ rest) =
          weigh-same (below_split c.split f) f (λ e. low-waits c.split n e.span.end e.span.start)
          (ss ++ rest) in
          lone-from n c.lone c.lone_start n-closed
          (omega (
            arith,
            s.parts.bags.old_side f,
            w,
            l,
            weigh-append f ss rest,
            split-of f,
          )) s.parts.lone_end s.parts.lone_at

  -- ---- the ends
  none-between : (n : ℕ) (es : List Elem) → weigh (starts_above n) es ≡ 0
      → weigh (starts_by n) es ≡ 0 → es ≡ []
  none-between n [] z w = refl
  none-between n (e ∷ es) z w =
      absurd (omega
      (arith, lt-zero n e.span.start (omega (arith, z)), le-zero e.span.start n (omega (arith, w))))

  none-after : (n m : ℕ) (es : List Elem) → closed ≤ n → ElemsRiseFrom m es
      → weigh (starts_by n) es ≡ 0
      → es ≡ []
  none-after n m [] h r z = refl
  none-after n m (e ∷ es) h r z =
      absurd (omega (arith, le-zero e.span.start n (omega (arith, z)), r.1.0, r.1.1, h))

  none-far : (t : ℕ) (es : List Elem) → closed ≤ t → weigh (starts_elsewhere t) es ≡ 0
      → weigh is_no_interval es ≡ 0 → es ≡ []
  none-far t [] h z w = refl
  none-far t (e ∷ es) h z w =
      let at : e.span.start ≡ t = else-zero e.span.start t (omega (arith, z)) in
      let i = interval-zero e.span.start e.span.end (omega (arith, w)) in
      absurd (omega (arith, at, i.0, i.1, h))

  old-closed : HasEnded olds → c.old_watch.beat ≡ closed
  old-closed h = old-beat ∙ beat-ended olds s.old_valid h

  over : HasEnded olds → c.split < beat fresh → (held_of c ≡ 0) × (b ≡ beat fresh)
  over h k =
      let opened : c.split < c.fresh_watch.beat = omega (arith, k, fresh-beat) in
      let alone = s.settled.opened opened in
      let q : lone_from c.lone c.lone_start ≡ closed =
      ap (λ (es : List Elem). lone_from es c.lone_start) alone in
      let now : now_of c ≡ c.fresh_watch.beat =
      omega (arith, q, old-closed h, opened, fresh-beat, beat-closed fresh s.fresh_valid) in
      let later = none-between (now_of c) c.later
      (subst (λ (n : ℕ). weigh (starts_above n) c.later ≡ 0)
      (sym now) s.parts.later_low) s.settled.later_gone in (
        held-none (s.settled.blocked.passed alone) alone
            (s.settled.partners_gone (omega (arith, now, opened))) later,
        omega (arith, s.sent_beat, now, fresh-beat),
      )

  both-ended : HasEnded olds → HasEnded fresh → HasEnded sent × (held_of c ≡ 0)
  both-ended h k = (ended, held-none (s.settled.blocked.passed alone) alone partners later)
    where
      g : c.fresh_watch.beat ≡ closed
      g = fresh-beat ∙ beat-ended fresh s.fresh_valid k

      ended : HasEnded sent
      ended = s.sent_ended ∙ rw (s.old_watch, s.fresh_watch, h, k) refl

      lone : (c.split < closed) ⊎ (closed ≤ c.split) → c.lone ≡ []
      lone (inl q) = s.settled.opened (omega (arith, q, g))
      lone (inr q) = none-there c.split c.lone q s.parts.lone_end s.parts.lone_are

      alone : c.lone ≡ []
      alone = lone (cases_lt c.split closed)

      now : now_of c ≡ closed
      now =
          let q : lone_from c.lone c.lone_start ≡ closed =
          ap (λ (es : List Elem). lone_from es c.lone_start) alone in
          omega (arith, q, g, old-closed h)

      single : (c.split < closed) ⊎ (closed ≤ c.split) → c.partners ≡ []
      single (inl q) = s.settled.partners_gone (omega (arith, q, now))
      single (inr q) = none-far c.split c.partners q s.parts.partners_at s.parts.partners_are

      partners : c.partners ≡ []
      partners = single (cases_lt c.split closed)

      later : c.later ≡ []
      later = none-after (now_of c) b c.later
          (omega (arith, now)) s.parts.later_rise s.settled.later_gone

  -- ---- what is held of either side
  abbrev held-old : List Elem
  held-old = c.olds ++ c.lone

  abbrev held-fresh : List Elem
  held-fresh = c.partners ++ c.later

  sides-rest : rest ≡ held-old ++ held-fresh
  sides-rest = sym (append_assoc c.olds c.lone held-fresh)

  held-is : held_of c ≡ length held-old + length held-fresh
  held-is = omega (arith, length-append c.olds c.lone, length-append c.partners c.later)

  held-ends : weigh (ends_above c.split) held-old ≡ 0
  held-ends =
      let f = ends_above c.split in
      let g = ends_elsewhere c.split in
      let le : (x : Elem) → f x ≤ g x = λ x. above-else c.split x.span.end in
      omega (
        arith,
        weigh-append f c.olds c.lone,
        s.parts.olds_end,
        zero-of f g c.lone le s.parts.lone_end,
      )

  below-by : (n m : ℕ) → if_so (nat_lt n m) ≤ if_so (nat_le n m)
  below-by n m = grind (arith, nat_tests)

  held-starts : weigh (starts_below c.split) held-fresh ≡ 0
  held-starts =
      let f = starts_below c.split in
      let le : (x : Elem) → f x ≤ starts_by c.split x = λ x. below-by x.span.start c.split in
      omega (
        arith,
        weigh-append f c.partners c.later,
        all-start c.split c.split c.partners (omega arith) s.parts.partners_at,
        zero-of f (starts_by c.split) c.later le s.parts.later_high,
      )

  waits-sent : beat fresh ≤ c.split → weigh (ends_at c.split) ss ≡ 0
  waits-sent h = s.parts.early (omega (arith, h, fresh-beat))

  none-waits : c.split < beat fresh → held-old ≡ []
  none-waits h =
      let alone = s.settled.opened (omega (arith, h, fresh-beat)) in
      rw (s.settled.blocked.passed alone, alone) refl

  -- ---- how far it is
  least-above : (n : ℕ) (xs ys : List Elem) → n ≤ closed → ElemsRiseFrom n xs
      → least_start ys ≡ n → least_start (xs ++ ys) ≡ n
  least-above n [] ys h r is = is
  least-above n (x ∷ xs) ys h r is =
      omega (
        arith,
        r.0,
        is,
        least-above n xs ys h (rises-below n x.span.start xs r.0 r.2) is,
      )

  least-at : (n : ℕ) (x : Elem) (xs : List Elem) → weigh (starts_elsewhere n) (x ∷ xs) ≡ 0
      → weigh is_no_interval (x ∷ xs) ≡ 0 → least_start (x ∷ xs) ≡ n
  least-at n x [] z w =
      let at : x.span.start ≡ n = else-zero x.span.start n (omega (arith, z)) in
      let i = interval-zero x.span.start x.span.end (omega (arith, w)) in
      omega (arith, at, i.0, i.1)
  least-at n x (y ∷ ys) z w =
      let at : x.span.start ≡ n = else-zero x.span.start n (omega (arith, z)) in
      omega (arith, at, least-at n y ys (omega (arith, z)) (omega (arith, w)))

  low-closed : (n : ℕ) (x : Elem) (xs : List Elem) → weigh (starts_elsewhere n) (x ∷ xs) ≡ 0
      → weigh is_no_interval (x ∷ xs) ≡ 0 → n ≤ closed
  low-closed n x xs z w =
      let at : x.span.start ≡ n = else-zero x.span.start n (omega (arith, z)) in
      let i = interval-zero x.span.start x.span.end (omega (arith, w)) in
      omega (arith, at, i.0, i.1)

  least-old : least_start held-old ≡ lone_from c.lone c.lone_start
  least-old =
      by c.lone s.settled.blocked.passed s.parts.lone_low s.parts.lone_at s.parts.lone_are
    where
      by : (ls : List Elem) → (ls ≡ [] → c.olds ≡ [])
          → (0 < count_of ls → (b ≤ c.lone_start) × (c.lone_start ≤ c.old_watch.beat)
          × (c.lone_start < c.split) × ElemsRiseFrom c.lone_start c.olds)
          → weigh (starts_elsewhere c.lone_start) ls ≡ 0 → weigh is_no_interval ls ≡ 0
          → least_start (c.olds ++ ls) ≡ lone_from ls c.lone_start
      by [] passed near z w = ap (λ (es : List Elem). least_start (es ++ [])) (passed refl)
      by (x ∷ xs) passed near z w =
          least-above c.lone_start c.olds (x ∷ xs) (low-closed c.lone_start x xs z w)
          (near (omega arith)).3 (least-at c.lone_start x xs z w)

  beat-is : b ≡ min (beat olds) (min (least_start held-old) (max c.split (beat fresh)))
  beat-is = s.sent_beat ∙ rw (old-beat, fresh-beat, least-old) refl

  -- ---- what could go was sent
  all-later : (n m : ℕ) (es : List Elem) → n < m → weigh (starts_elsewhere m) es ≡ 0
      → weigh (starts_by n) es ≡ 0
  all-later n m [] h z = refl
  all-later n m (e ∷ es) h z =
      let at : e.span.start ≡ m = else-zero e.span.start m (omega (arith, z)) in
      omega (
        arith,
        not-le e.span.start n (omega (arith, h, at)),
        all-later n m es h (omega (arith, z)),
      )

  rises-later : (n m : ℕ) (es : List Elem) → n < m → ElemsRiseFrom m es → weigh (starts_by n) es ≡ 0
  rises-later n m [] h r = refl
  rises-later n m (e ∷ es) h r =
      omega (
        arith,
        not-le e.span.start n (omega (arith, h, r.0)),
        rises-later n e.span.start es (omega (arith, h, r.0)) r.2,
      )

  rises-ahead : (n m : ℕ) (es : List Elem) → n ≤ m → ElemsRiseFrom m es → FirstElsewhere m es
      → weigh (starts_by n) es ≡ 0
  rises-ahead n m [] h r ne = refl
  rises-ahead n m (e ∷ es) h r ne =
      let after : m < e.span.start = omega (arith, r.0, ne) in
      omega (
        arith,
        not-le e.span.start n (omega (arith, h, after)),
        rises-later n e.span.start es (omega (arith, h, after)) r.2,
      )

  olds-ahead : weigh (starts_by b) c.olds ≡ 0
  olds-ahead = by (some-of c.lone)
    where
      by : (c.lone ≡ []) ⊎ (0 < count_of c.lone) → weigh (starts_by b) c.olds ≡ 0
      by (inl none) = ap (weigh (starts_by b)) (s.settled.blocked.passed none)
      by (inr some) =
          let below_split = s.parts.lone_low some in
          rises-ahead b c.lone_start c.olds below_split.0 below_split.3 s.settled.blocked.ahead

  goes-by : (t n x y : ℕ)
      → if_so (nat_le y n && not (eqb x t)) ≤ if_so (nat_le y n)
  goes-by t n x y = grind (arith, nat_tests)

  goes-elsewhere : (t n x y : ℕ)
      → if_so (nat_le y n && not (eqb x t)) ≤ cond {A = ℕ} (eqb x t) 0 1
  goes-elsewhere t n x y = grind (arith, nat_tests)

  prompt-old : weigh (goes_by c.split b) held-old ≡ 0
  prompt-old =
      let f = goes_by c.split b in
      omega (
        arith,
        weigh-append f c.olds c.lone,
        zero-of f (starts_by b) c.olds (λ x. goes-by c.split b x.span.end x.span.start) olds-ahead,
        zero-of f (ends_elsewhere c.split) c.lone
            (λ x. goes-elsewhere c.split b x.span.end x.span.start)
            s.parts.lone_end,
      )

  prompt-fresh : weigh (starts_by b) held-fresh ≡ 0
  prompt-fresh =
      let f = starts_by b in
      let later : weigh f c.later ≡ 0 = subst (λ (n : ℕ). weigh (starts_by n) c.later ≡ 0)
      (sym s.sent_beat) s.settled.later_gone in
      omega (
        arith,
        weigh-append f c.partners c.later,
        later,
        partners (cases_lt (now_of c) c.split),
      )
    where
      partners : (now_of c < c.split) ⊎ (c.split ≤ now_of c) → weigh (starts_by b) c.partners ≡ 0
      partners (inl q) =
          all-later b c.split c.partners (omega (arith, q, s.sent_beat)) s.parts.partners_at
      partners (inr q) = ap (weigh (starts_by b)) (s.settled.partners_gone q)

  -- ---- starts and ends
  pairs-start : (n : ℕ) (ps : List Pairing) → ArePairings c.split ps
      → weigh (λ (p : Pairing). starts_below n p.both) ps ≡ weigh
      (λ (p : Pairing). starts_below n p.first) ps
  pairs-start n [] h = refl
  pairs-start n (p ∷ ps) h =
      let a : starts_below n p.both ≡ starts_below n p.first =
      ap (λ (k : ℕ). if_so (nat_lt k n)) h.0.start in
      omega (arith, a, pairs-start n ps h.1)

  pairs-end : (n : ℕ) (ps : List Pairing) → ArePairings c.split ps
      → weigh (λ (p : Pairing). ends_above n p.both) ps ≡ weigh
      (λ (p : Pairing). ends_above n p.second) ps
  pairs-end n [] h = refl
  pairs-end n (p ∷ ps) h =
      let a : ends_above n p.both ≡ ends_above n p.second =
      ap (λ (k : ℕ). if_so (nat_lt n k)) h.0.end in
      omega (arith, a, pairs-end n ps h.1)

  starts-kept : (n : ℕ) → weigh (starts_below n) os ≡ 0 → weigh (starts_below n) fs ≡ 0
      → weigh (starts_below n) ss ≡ 0
  starts-kept n h k =
      let g = s.parts.bags in
      let f = starts_below n in
      omega (
        arith,
        h,
        k,
        weigh-append f ss rest,
        weigh-three c.split f (ss ++ rest) spans-all,
        g.old_side f,
        g.fresh_side f,
        g.merged f,
        pairs-start n g.pairs g.pairings,
      )

  ends-kept : (n : ℕ) → weigh (ends_above n) os ≡ 0 → weigh (ends_above n) fs ≡ 0
      → weigh (ends_above n) ss ≡ 0
  ends-kept n h k =
      let g = s.parts.bags in
      let f = ends_above n in
      omega (
        arith,
        h,
        k,
        weigh-append f ss rest,
        weigh-three c.split f (ss ++ rest) spans-all,
        g.old_side f,
        g.fresh_side f,
        g.merged f,
        pairs-end n g.pairs g.pairings,
      )

  -- ---- no seam
  apart-front : touching c.split ss ≡ 0
  apart-front =
      let near = c.lone ++ c.partners in
      let a = weigh-append (λ x. weigh (touch c.split x) (ss ++ near)) ss near in
      let q = weigh-le (λ (x : Elem). weigh (touch c.split x) ss)
      (λ x. weigh (touch c.split x) (ss ++ near))
      (λ x. omega (arith, weigh-append (touch c.split x) ss near)) ss in
      omega (arith, a, q, s.parts.apart)

  pub merged : Merged c.split olds fresh sent (held_of c)
  merged = record {
    valid = s.sent_valid;
    held_old = held-old;
    held_fresh = held-fresh;
    held_is = held-is;
    held_ends = held-ends;
    held_starts = held-starts;
    outcome = subst (λ (es : List Elem). Outcome c.split os fs (ss ++ es)) sides-rest
        (outcome-of c.split os fs (ss ++ rest) s.parts.bags spans-all);
    below = λ t h k. below-at t s.fresh_high k (λ tuple. held-zero t b tuple rest h late);
    from = λ t h k. from-at t k (λ tuple. held-zero t b tuple rest h late);
    all_below = λ z t k. below-at t s.fresh_high k
        (λ tuple. ap (weigh (held-at t tuple)) (none-held z));
    all_from = λ z t k. from-at t k (λ tuple. ap (weigh (held-at t tuple)) (none-held z));
    apart = apart-front;
    beat_is = beat-is;
    beat_old = omega (arith, s.parts.old_beat, old-beat);
    beat_fresh = omega (arith, s.parts.fresh_beat, fresh-beat);
    beat_from = beat-from;
    waits = waits-sent;
    waits_no_longer = none-waits;
    late = subst (λ (es : List Elem). weigh (starts_below b) es ≡ 0) sides-rest late;
    prompt_old = prompt-old;
    prompt_fresh = prompt-fresh;
    over = over;
    ended = both-ended;
    starts = starts-kept;
    ends = ends-kept;
  }
