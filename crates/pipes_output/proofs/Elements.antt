-- What the changes of elements say of their snapshots.
use Rattle.std.proofs.Common.{◌≡◌, ℕ, ◌+◌, ◌≤◌, ◌<◌, Bool, true, false, not, ◌&&◌, cond, List}
use Rattle.std.proofs.Common.{[], ◌∷◌, map, refl, sym, ◌∙◌, ap, arith}
use Rattle.std.specs.List.{All, filter}
use Rattle.std.specs.List.Sorted.{IsPermutation}
use Rattle.std.specs.Prelude.{nat_le, nat_lt}
use Rattle.std.proofs.lemmas.Bool.Decides.{nat_tests}
use Rattle.std.proofs.lemmas.List.Elements.{All-head, All-tail, All-cons, All-nil}
use Rattle.std.proofs.lemmas.List.Sorted.{All-permutation, sum_by-IsPermutation}
use Rattle.pipes_time.specs.Interval.{horizon, IsInterval}
use Rattle.pipes_tuple.specs.declared.value.Value.{Value}
use Rattle.pipes_tuple.specs.Bag.{count}
use Rattle.pipes_tuple.specs.Equal.{tuple_eq}
use Rattle.pipes_stream.specs.declared.Elem.{Elem}
use Rattle.pipes_stream.specs.Snapshot.{is_held, snapshot}
use Rattle.pipes_output.specs.Periods.{Period}
use Rattle.pipes_output.specs.NormalText.{IsPeriod}
use Rattle.pipes_output.specs.Changes.{Change, all_changes, begun, ended, present, Rising}
use Rattle.pipes_output.specs.Changes.{AreAllChanges}
use Rattle.pipes_output.specs.Sweeps.{AreThose, IsPeriodOf}
use Rattle.pipes_output.proofs.Those.{AreThose-like}
use Rattle.pipes_output.proofs.Counting.{count_by-cons}
use Rattle.pipes_output.proofs.Grouping.{IsLongestPeriod-same}

abbrev pub IsElem : Elem → Type 0
IsElem e = IsInterval e.span.start e.span.end

-- one element more in a snapshot
pub snapshot-cons : (tuple : List Value) (e : Elem) (es : List Elem) (t : ℕ)
    → count tuple (snapshot (e ∷ es) t) ≡ cond
    (tuple_eq e.tuple tuple && is_held e.span t) 1 0 + count tuple (snapshot es t)
snapshot-cons tuple e es t = by (is_held e.span t)
  where
    one : (b : Bool) → cond {A = ℕ} b 1 0 ≡ cond (b && true) 1 0
    one true = refl
    one false = refl

    none : (b : Bool) → cond {A = ℕ} (b && false) 1 0 ≡ 0
    none true = refl
    none false = refl

    by : (b : Bool) → count tuple
        (map (λ (e : Elem). e.tuple)
        (cond b (e ∷ filter (λ (e : Elem). is_held e.span t) es)
        (filter (λ (e : Elem). is_held e.span t) es))) ≡ cond
        (tuple_eq e.tuple tuple && b) 1 0 + count tuple (snapshot es t)
    by true = count_by-cons (λ (row : List Value). tuple_eq row tuple) e.tuple (snapshot es t)
        ∙ ap (λ n. n + count tuple (snapshot es t)) (one (tuple_eq e.tuple tuple))
    by false = omega (arith, none (tuple_eq e.tuple tuple))

begun-cons : (tuple : List Value) (e : Elem) (es : List Elem) (t : ℕ)
    → begun tuple (all_changes (e ∷ es)) t ≡ cond
    (tuple_eq e.tuple tuple && nat_le e.span.start t) 1 0 + begun tuple (all_changes es) t
begun-cons tuple e es t =
    let test : Change → Bool = λ c. tuple_eq c.tuple tuple && not c.ends && nat_le c.at t in
    let starts : Change = record { tuple = e.tuple; at = e.span.start; ends = false } in
    let stops : Change = record { tuple = e.tuple; at = e.span.end; ends = true } in
    omega (
      arith,
      count_by-cons test starts (stops ∷ all_changes es),
      count_by-cons test stops
          (all_changes es),
      opens (tuple_eq e.tuple tuple) (nat_le e.span.start t),
      shuts
          (tuple_eq e.tuple tuple) (nat_le e.span.end t),
    )
  where
    opens : (a b : Bool) → cond {A = ℕ} (a && true && b) 1 0 ≡ cond (a && b) 1 0
    opens true b = refl
    opens false b = refl

    shuts : (a b : Bool) → cond {A = ℕ} (a && false && b) 1 0 ≡ 0
    shuts true b = refl
    shuts false b = refl

ended-cons : (tuple : List Value) (e : Elem) (es : List Elem) (t : ℕ)
    → ended tuple (all_changes (e ∷ es)) t ≡ cond
    (tuple_eq e.tuple tuple && nat_le e.span.end t) 1 0 + ended tuple (all_changes es) t
ended-cons tuple e es t =
    let test : Change → Bool = λ c. tuple_eq c.tuple tuple && c.ends && nat_le c.at t in
    let starts : Change = record { tuple = e.tuple; at = e.span.start; ends = false } in
    let stops : Change = record { tuple = e.tuple; at = e.span.end; ends = true } in
    omega (
      arith,
      count_by-cons test starts (stops ∷ all_changes es),
      count_by-cons test stops
          (all_changes es),
      shuts (tuple_eq e.tuple tuple) (nat_le e.span.start t),
      opens
          (tuple_eq e.tuple tuple) (nat_le e.span.end t),
    )
  where
    opens : (a b : Bool) → cond {A = ℕ} (a && true && b) 1 0 ≡ cond (a && b) 1 0
    opens true b = refl
    opens false b = refl

    shuts : (a b : Bool) → cond {A = ℕ} (a && false && b) 1 0 ≡ 0
    shuts true b = refl
    shuts false b = refl

-- what is there at an instant has begun by then, and not ended
counted : (tuple : List Value) (es : List Elem) (t : ℕ) → All IsElem es
    → count tuple (snapshot es t) + ended tuple (all_changes es) t ≡ begun tuple (all_changes es) t
counted tuple [] t all = refl
counted tuple (e ∷ es) t all =
    let here = one (tuple_eq e.tuple tuple) e.span.start e.span.end (All-head IsElem e es all).0 in
    let rest = counted tuple es t (All-tail IsElem e es all) in
    omega (
      arith,
      snapshot-cons tuple e es t,
      begun-cons tuple e es t,
      ended-cons tuple e es t,
      here,
      rest,
    )
  where
    held : (s n : ℕ) → s < n
        → cond {A = ℕ} (nat_le s t && nat_lt t n) 1 0 + cond (nat_le n t) 1 0 ≡ cond
        (nat_le s t) 1 0
    held s n h = grind (arith, nat_tests)

    one : (b : Bool) (s n : ℕ) → s < n
        → cond {A = ℕ} (b && (nat_le s t && nat_lt t n)) 1 0 + cond (b && nat_le n t) 1 0 ≡ cond
        (b && nat_le s t) 1 0
    one true s n h = held s n h
    one false s n h = refl

-- all has ended at the horizon
over : (tuple : List Value) (es : List Elem) → All IsElem es
    → ended tuple (all_changes es) horizon ≡ begun tuple (all_changes es) horizon
over tuple [] all = refl
over tuple (e ∷ es) all =
    let interval = All-head IsElem e es all in
    let here = one (tuple_eq e.tuple tuple) e.span.start e.span.end horizon interval.0 interval.1 in
    let rest = over tuple es (All-tail IsElem e es all) in
    omega (arith, begun-cons tuple e es horizon, ended-cons tuple e es horizon, here, rest)
  where
    both : (s n t : ℕ) → s < n → n ≤ t → cond {A = ℕ} (nat_le n t) 1 0 ≡ cond (nat_le s t) 1 0
    both s n t h k = grind (arith, nat_tests)

    one : (b : Bool) (s n t : ℕ) → s < n → n ≤ t
        → cond {A = ℕ} (b && nat_le n t) 1 0 ≡ cond (b && nat_le s t) 1 0
    one true s n t h k = both s n t h k
    one false s n t h k = refl

within : (es : List Elem) → All IsElem es → All (λ c. c.at ≤ horizon) (all_changes es)
within [] all = All-nil (λ (c : Change). c.at ≤ horizon)
within (e ∷ es) all =
    let interval = All-head IsElem e es all in
    let most : e.span.end ≤ horizon = interval.1 in
    let proper : e.span.start < e.span.end = interval.0 in
    All-cons (λ (c : Change). c.at ≤ horizon)
    (record { tuple = e.tuple; at = e.span.start; ends = false })
    (record { tuple = e.tuple; at = e.span.end; ends = true } ∷ all_changes es) (omega arith)
    (All-cons (λ (c : Change). c.at ≤ horizon)
    (record { tuple = e.tuple; at = e.span.end; ends = true }) (all_changes es) most
    (within es (All-tail IsElem e es all)))

module _ (es : List Elem) (all : All IsElem es) (changes : List Change)
    (same : IsPermutation (all_changes es) changes) where
  begun-same : (tuple : List Value) (t : ℕ) → begun tuple changes t ≡ begun tuple (all_changes es) t
  begun-same tuple t = sum_by-IsPermutation
      (λ (c : Change). cond (tuple_eq c.tuple tuple && not c.ends && nat_le c.at t) 1 0)
      (all_changes es) changes same

  ended-same : (tuple : List Value) (t : ℕ) → ended tuple changes t ≡ ended tuple (all_changes es) t
  ended-same tuple t = sum_by-IsPermutation
      (λ (c : Change). cond (tuple_eq c.tuple tuple && c.ends && nat_le c.at t) 1 0)
      (all_changes es) changes same

  -- the changes of elements, in order
  pub all-changes : Rising changes → AreAllChanges changes
  all-changes up = record {
    order = up;
    within = All-permutation (λ (c : Change). c.at ≤ horizon) (all_changes es) changes same
        (within es all);
    balanced = λ tuple. record {
      begins_first = λ t. omega
          (arith, begun-same tuple t, ended-same tuple t, counted tuple es t all);
      ends_all = omega (
        arith,
        begun-same tuple horizon,
        ended-same tuple horizon,
        over tuple es
            all,
      );
    };
  }

  -- how many elements of the tuple there are
  pub present-is : (tuple : List Value) (t : ℕ)
      → present tuple changes t ≡ count tuple (snapshot es t)
  present-is tuple t = omega (arith, begun-same tuple t, ended-same tuple t, counted tuple es t all)

  -- the periods of the changes are those of the elements
  pub periods-of_elements : (periods : List Period) → AreThose (IsPeriodOf changes) periods
      → AreThose (IsPeriod (snapshot es)) periods
  periods-of_elements periods those =
      AreThose-like (IsPeriodOf changes) (IsPeriod (snapshot es)) periods
      (λ p h. IsLongestPeriod-same (present p.tuple changes)
      (λ t. count p.tuple (snapshot es t)) p.start p.end p.copies
      (λ t k. present-is p.tuple t) h)
      (λ p h. IsLongestPeriod-same (λ t. count p.tuple (snapshot es t))
      (present p.tuple changes) p.start p.end p.copies (λ t k. sym (present-is p.tuple t)) h)
      those
