-- What the lines of a normal text stand for: at each instant, the rows.
use Rattle.std.proofs.Common.{◌≡◌, ◌⊎◌, ℕ, zero, suc, ◌+◌, ◌-◌, ◌≤◌, ◌<◌, Bool, true, false}
use Rattle.std.proofs.Common.{cond, List, [], ◌∷◌, ◌++◌, map, refl, sym, ◌∙◌, ap, subst, arith, inl}
use Rattle.std.proofs.Common.{inr}
use Rattle.std.specs.List.{Contains, filter, flat_map, sum_by}
use Rattle.std.specs.declared.cmp.Ordering.TheVariants.{Less}
use Rattle.std.proofs.lemmas.Bool.{cases_lt, cases_eq}
use Rattle.std.proofs.lemmas.Bool.Decides.{nat_tests}
use Rattle.std.proofs.lemmas.List.Elements.{All-contains}
use Rattle.std.proofs.lemmas.List.Sums.{sum_by-cons}
use Rattle.pipes_time.specs.Interval.{horizon}
use Rattle.pipes_tuple.specs.declared.value.Value.{Value}
use Rattle.pipes_tuple.specs.Bag.{count}
use Rattle.pipes_tuple.specs.Equal.{tuple_eq}
use Rattle.pipes_tuple.proofs.Bags.{count-cons}
use Rattle.pipes_tuple.proofs.Equality.{tuple_eq-Decides}
use Rattle.pipes_stream.specs.declared.Elem.{Elem}
use Rattle.pipes_stream.specs.Snapshot.{is_held, snapshot}
use Rattle.pipes_output.specs.Periods.{Period}
use Rattle.pipes_output.specs.NormalText.{IsLongestPeriod, IsNormal}
use Rattle.pipes_output.specs.NormalText.{LinesAreRows, copies_of, period_span, line_elements}
use Rattle.pipes_output.specs.NormalText.{period_cmp}
use Rattle.pipes_output.proofs.Longest.{IsSame, turns-longest}
use Rattle.pipes_output.proofs.NormalLaws.{Rises, rises-first, rises-rest, first-or-rest, in-rest}
use Rattle.pipes_output.proofs.NormalLaws.{in-first, nothing-in, not-itself}
use Rattle.pipes_output.proofs.Those.{same-fields}

-- ---- how often a tuple occurs among the copies

-- how many copies of the tuple the line stands for at the instant
abbrev share : List Value → ℕ → Period → ℕ
share tuple t p = cond (is_held (period_span p) t) (cond (tuple_eq p.tuple tuple) p.copies 0) 0

count-copies : (tuple : List Value) (t n : ℕ) (e : Elem) (rest : List Elem)
    → count tuple (snapshot (copies_of n e ++ rest) t) ≡ cond (is_held e.span t)
    (cond (tuple_eq e.tuple tuple) n 0) 0 + count tuple (snapshot rest t)
count-copies tuple t zero e rest = none (is_held e.span t) (tuple_eq e.tuple tuple)
  where
    none : (a b : Bool)
        → count tuple (snapshot rest t) ≡ cond a (cond b 0 0) 0 + count tuple (snapshot rest t)
    none true true = omega arith
    none true false = omega arith
    none false b = omega arith
count-copies tuple t (suc n) e rest = by (is_held e.span t) (tuple_eq e.tuple tuple) refl
    (count-copies tuple t n e rest)
  where
    others : List Elem
    others = filter (λ e. is_held e.span t) (copies_of n e ++ rest)

    by : (a b : Bool) → tuple_eq e.tuple tuple ≡ b
        → count tuple (snapshot (copies_of n e ++ rest) t) ≡ cond a (cond b n 0) 0 + count tuple
        (snapshot rest t)
        → count tuple (map (λ (e : Elem). e.tuple)
        (cond a (e ∷ filter (λ e. is_held e.span t) (copies_of n e ++ rest))
        (filter (λ e. is_held e.span t) (copies_of n e ++ rest))))
        ≡ cond a (cond b (suc n) 0) 0 + count tuple (snapshot rest t)
    by true true same more =
        omega (
          arith,
          more,
          count-cons tuple e.tuple (snapshot (copies_of n e ++ rest) t),
          ap
              (λ (b : Bool). cond {A = ℕ} b 1 0) same,
        )
    by true false same more =
        omega (
          arith,
          more,
          count-cons tuple e.tuple (snapshot (copies_of n e ++ rest) t),
          ap
              (λ (b : Bool). cond {A = ℕ} b 1 0) same,
        )
    by false b same more = more

count-lines : (tuple : List Value) (t : ℕ) (periods : List Period)
    → count tuple (snapshot (flat_map line_elements periods) t) ≡ sum_by (share tuple t) periods
count-lines tuple t [] = refl
count-lines tuple t (p ∷ ps) =
    let first = count-copies tuple t p.copies (record { tuple = p.tuple; span = period_span p })
    (flat_map line_elements ps) in
    first ∙ ap (λ (n : ℕ). share tuple t p + n) (count-lines tuple t ps)
    ∙ sym (sum_by-cons (share tuple t) p ps)

-- ---- sums of which at most one summand counts

sum-none : (f : Period → ℕ) (ps : List Period) → ((q : Period) → Contains ps q → f q ≡ 0)
    → sum_by f ps ≡ 0
sum-none f [] none = refl
sum-none f (p ∷ ps) none =
    omega (
      arith,
      sum_by-cons f p ps,
      none p (in-first p ps),
      sum-none f ps
          (λ q c. none q (in-rest p q ps c)),
    )

sum-one : (f : Period → ℕ) (p : Period) (ps : List Period) → Rises ps → Contains ps p
    → ((q : Period) → Contains ps q → (f q ≡ 0) ⊎ (q ≡ p)) → sum_by f ps ≡ f p
sum-one f p [] up c alone = absurd (nothing-in p c)
sum-one f p (x ∷ xs) up c alone =
    by (first-or-rest x p xs c)
    (λ d. sum-one f p xs (rises-rest x xs up) d (λ q k. alone q (in-rest x q xs k)))
  where
    above : (q : Period) → Contains xs q → period_cmp x q ≡ Less
    above q d = All-contains (λ r. period_cmp x r ≡ Less) xs q (rises-first x xs up) d

    by : (x ≡ p) ⊎ Contains xs p → (Contains xs p → sum_by f xs ≡ f p) → sum_by f (x ∷ xs) ≡ f p
    by (inl e) more =
        let rest = sum-none f xs (λ q d. elim (alone q (in-rest x q xs d)) [
          | inl z ↦ z
          | inr s ↦ absurd (not-itself x q (above q d) (e ∙ sym s))
        ]) in
        omega (arith, sum_by-cons f x xs, rest, ap f e)
    by (inr d) more =
        let first : f x ≡ 0 = elim (alone x (in-first x xs)) [
          | inl z ↦ z
          | inr s ↦ absurd (not-itself x p (above p d) s)
        ] in
        omega (arith, sum_by-cons f x xs, first, more d)

-- ---- the one longest interval round an instant

-- back from an instant
same_before : (number : ℕ → ℕ) (t : ℕ)
    → (since : ℕ) × (since ≤ t) × IsSame number since (suc t) (number t)
same_before number zero = (
  0,
  omega arith,
  record {
    begun = λ h. omega arith;
    within = λ s h k. ap number (omega arith);
    before = λ h. absurd (omega arith);
  },
)
same_before number (suc t) = elim (cases_eq (number (suc t)) (number t)) [
  | inl e ↦
      let back = same_before number t in (
        back.0,
        omega (arith, back.1),
        record {
          begun = λ h. omega (arith, back.1);
          within = λ s h k. elim (cases_lt s (suc t)) [
            | inl less ↦ back.2.within s h less ∙ sym e
            | inr least ↦ ap number (omega arith)
          ];
          before = λ h f. back.2.before h (f ∙ e);
        },
      )
  | inr other ↦ (
    suc t,
    omega arith,
    record {
      begun = λ h. omega arith;
      within = λ s h k. ap number (omega arith);
      before = λ h f. let e : suc t - 1 ≡ t = omega arith in other (sym f ∙ ap number e);
    },
  )
]

-- on from it, up to the horizon at most
longest_on : (number : ℕ → ℕ) (since copies left until : ℕ) → IsSame number since until copies
    → 1 ≤ copies → 1 ≤ until → left + until ≡ horizon
    → (end : ℕ) × (until ≤ end) × IsLongestPeriod number since end copies
longest_on number since copies zero until same some begun sum = (
  until,
  omega arith,
  record {
    interval = (same.begun begun, omega arith);
    some = some;
    within = same.within;
    before = same.before;
    after = λ h. absurd (omega arith);
  },
)
longest_on number since copies (suc left) until same some begun sum = elim
    (cases_eq (number until) copies) [
      | inl e ↦
          let start = same.begun begun in
          let longer : IsSame number since (suc until) copies = record {
            begun = λ h. omega arith;
            within = λ s h k. elim (cases_lt s until) [
              | inl less ↦ same.within s h less
              | inr least ↦ ap number (omega arith) ∙ e
            ];
            before = same.before;
          } in
          let more = longest_on number since copies left (suc until) longer some (omega arith)
          (omega arith) in
          (more.0, omega (arith, more.1), more.2)
      | inr other ↦ (
        until,
        omega arith,
        turns-longest number since until copies same begun
            (omega arith) some other,
      )
    ]

longest_around : (number : ℕ → ℕ) (t : ℕ) → t < horizon → 1 ≤ number t
    → (start : ℕ) × (end : ℕ) × (start ≤ t) × (t < end)
    × IsLongestPeriod number start end (number t)
longest_around number t below some =
    let back = same_before number t in
    let on = longest_on number back.0 (number t) (horizon - suc t) (suc t) back.2 some (omega arith)
    (omega arith) in
    (back.0, on.0, back.1, omega (arith, on.1), on.2)

-- two that have an instant are one
one_longest : (number : ℕ → ℕ) (t s e m a b n : ℕ) → IsLongestPeriod number s e m
    → IsLongestPeriod number a b n
    → s ≤ t → t < e → a ≤ t → t < b
    → (s ≡ a) × (e ≡ b) × (m ≡ n)
one_longest number t s e m a b n long other hs he ha hb =
    let mine = long.within t hs he in
    let its = other.within t ha hb in
    let same : m ≡ n = sym mine ∙ its in
    let most = long.interval.1 in
    let more = other.interval.1 in
    let starts : s ≡ a = elim (cases_lt s a) [
      | inl h ↦ absurd (other.before (omega arith)
          (long.within (a - 1) (omega arith) (omega arith) ∙ same))
      | inr h ↦ elim (cases_lt a s) [
        | inl k ↦ absurd (long.before (omega arith)
            (other.within (s - 1) (omega arith) (omega arith) ∙ sym same))
        | inr k ↦ omega arith
      ]
    ] in
    let ends : e ≡ b = elim (cases_lt e b) [
      | inl h ↦ absurd (long.after (omega arith) (other.within e (omega arith) h ∙ sym same))
      | inr h ↦ elim (cases_lt b e) [
        | inl k ↦ absurd (other.after (omega arith) (long.within b (omega arith) k ∙ same))
        | inr k ↦ omega arith
      ]
    ] in
    (starts, ends, same)

-- ---- the lines of a normal text

module _ (rows : ℕ → List (List Value)) (periods : List Period) (normal : IsNormal rows periods)
    (tuple : List Value) (t : ℕ) (below : t < horizon) where
  number : ℕ → ℕ
  number s = count tuple (rows s)

  abbrev Counts : Period → Type 0
  Counts q = (q.start ≤ t) × (t < q.end) × (q.tuple ≡ tuple)
      × IsLongestPeriod (λ s. count tuple (rows s)) q.start q.end q.copies

  -- a line that counts at the instant
  counts : (q : Period) → Contains periods q → (share tuple t q ≡ 0) ⊎ Counts q
  counts q c = by (is_held (period_span q) t) (tuple_eq q.tuple tuple) refl refl
    where
      by : (a b : Bool) → is_held (period_span q) t ≡ a → tuple_eq q.tuple tuple ≡ b
          → (cond a (cond b q.copies 0) 0 ≡ 0) ⊎ Counts q
      by true true held same =
          let start : q.start ≤ t = grind (arith, nat_tests, held) in
          let end : t < q.end = grind (arith, nat_tests, held) in
          let is : q.tuple ≡ tuple = (tuple_eq-Decides q.tuple tuple).0 same in
          inr (
            start,
            end,
            is,
            subst
                (λ (v : List Value). IsLongestPeriod (λ s. count v (rows s)) q.start q.end q.copies)
                is
                ((normal.exact q).0 c),
          )
      by true false held same = inl refl
      by false b held same = inl refl

  none_counts : count tuple (rows t) ≡ 0 → (q : Period) → Contains periods q → share tuple t q ≡ 0
  none_counts zero_there q c = elim (counts q c) [
    | inl z ↦ z
    | inr is ↦
        let some = is.3.some in
        let its = is.3.within t is.0 is.1 in
        absurd (omega (arith, its, zero_there))
  ]

  one_counts : 1 ≤ count tuple (rows t) → sum_by (share tuple t) periods ≡ count tuple (rows t)
  one_counts some =
      let long = longest_around (λ s. count tuple (rows s)) t below some in
      let p : Period = record {
        start = long.0;
        end = long.1;
        copies = count tuple (rows t);
        tuple = tuple;
      } in
      let there : Contains periods p = (normal.exact p).1 long.4 in
      let sum = sum-one (share tuple t) p periods normal.ordered there (λ q c. elim (counts q c) [
        | inl z ↦ inl z
        | inr is ↦
            let same = one_longest
            (λ s. count tuple (rows s)) t q.start q.end q.copies long.0 long.1
            (count tuple (rows t)) is.3 long.4 is.0 is.1 long.2 long.3 in
            inr (same-fields q p same.0 same.1 same.2 is.2)
      ]) in
      let held : is_held (record { start = long.0; end = long.1 }) t ≡ true =
      (let a = long.2 in let b = long.3 in grind (arith, nat_tests, a, b)) in
      let same : tuple_eq tuple tuple ≡ true = (tuple_eq-Decides tuple tuple).1 refl in
      sum ∙ (λ i. cond (held i) (cond (same i) (count tuple (rows t)) 0) 0)

  shares : sum_by (share tuple t) periods ≡ count tuple (rows t)
  shares = elim (cases_lt 0 (count tuple (rows t))) [
    | inl some ↦ one_counts (omega arith)
    | inr none ↦ (let zero_there : count tuple (rows t) ≡ 0 = omega arith in
        sum-none (share tuple t) periods (none_counts zero_there) ∙ sym zero_there)
  ]

pub lines-are-rows : LinesAreRows
lines-are-rows rows periods normal t below = record {
  counts = λ tuple. count-lines tuple t periods ∙ shares rows periods normal tuple t below;
}
