-- The moves of what is settled: more elements, more instants, a number that turns, and a line that
-- is given.
use Rattle.std.proofs.Common.{◌≡◌, ◌≢◌, ◌⊎◌, ℕ, zero, suc, ◌+◌, ◌-◌, ◌≤◌, ◌<◌, Bool, true, false}
use Rattle.std.proofs.Common.{List, [], ◌∷◌, ◌++◌, Option, Some, None, length, get_or, refl, sym}
use Rattle.std.proofs.Common.{◌∙◌, ap, subst, arith, inl, inr, length-append}
use Rattle.std.specs.Prelude.{nat_lt}
use Rattle.std.specs.List.{AllPairs, Contains}
use Rattle.std.specs.declared.cmp.Ordering.{Ordering}
use Rattle.std.specs.declared.cmp.Ordering.TheVariants.{Less, Equal}
use Rattle.std.specs.Ordering.{nat_cmp, ordering_then}
use Rattle.std.proofs.lemmas.Bool.{cases_lt, cases_eq, cond-true, cond-false, lt-ltb, le-ltb}
use Rattle.std.proofs.lemmas.Bool.Decides.{nat_tests}
use Rattle.std.proofs.lemmas.List.{get_or_append_left, get_or-append-add}
use Rattle.std.proofs.lemmas.List.Elements.{Contains-get_or}
use Rattle.pipes_time.specs.Interval.{horizon}
use Rattle.pipes_tuple.specs.declared.value.Value.{Value}
use Rattle.pipes_tuple.specs.Equal.{tuple_eq}
use Rattle.pipes_tuple.specs.Order.{tuple_cmp}
use Rattle.pipes_tuple.proofs.Equality.{tuple_eq-Decides}
use Rattle.pipes_output.specs.Periods.{Period}
use Rattle.pipes_output.specs.NormalText.{IsLongestPeriod, period_cmp}
use Rattle.pipes_settled.specs.declared.pieces.Level.{Level}
use Rattle.pipes_settled.specs.Standing.{IsLevel, LevelIs, AreSettled}
use Rattle.pipes_settled.specs.Moves.{copies_of, IsPut, EndsPiece, BeginsPiece}
use Rattle.pipes_settled.proofs.Leveling.{IsFlat, IsLongestPeriod-upto, LevelIs-upto, level-raise}
use Rattle.pipes_settled.proofs.Leveling.{flat-no_end, level-ends, level-longest, level-new}
use Rattle.pipes_settled.proofs.Leveling.{level-flat, level-last}

abbrev since_of : Option Level → ℕ
since_of None = 0
since_of (Some l) = l.since

abbrev pub Tuple : Type 0
Tuple = List Value

-- a list with one item more
pub Contains-last : (ps : List Period) (x p : Period) → Contains (ps ++ x ∷ []) p
    → Contains ps p ⊎ (x ≡ p)
Contains-last [] x p h = by h.0 h.1 h.2
  where
    by : (k : ℕ) → k < length (x ∷ []) → get_or (x ∷ []) k p ≡ p → Contains [] p ⊎ (x ≡ p)
    by zero l e = inr e
    by (suc k) l e = absurd (omega arith)
Contains-last (q ∷ qs) x p h = by (λ c. Contains-last qs x p c) h.0 h.1 h.2
  where
    by : (Contains (qs ++ x ∷ []) p → Contains qs p ⊎ (x ≡ p)) → (k : ℕ)
        → k < length (q ∷ (qs ++ x ∷ [])) → get_or (q ∷ (qs ++ x ∷ [])) k p ≡ p
        → Contains (q ∷ qs) p ⊎ (x ≡ p)
    by rest zero l e = inl (0, omega arith, e)
    by rest (suc k) l e = elim (rest (k, omega arith, e)) [
      | inl c ↦ inl (suc c.0, omega (arith, c.1), c.2)
      | inr c ↦ inr c
    ]

pub Contains-before : (ps : List Period) (x p : Period) → Contains ps p → Contains (ps ++ x ∷ []) p
Contains-before ps x p c = (
  c.0,
  omega (arith, c.1, length-append ps (x ∷ [])),
  get_or_append_left
      ps (x ∷ []) p c.0 c.1 ∙ c.2,
)

pub Contains-here : (ps : List Period) (x p : Period) → x ≡ p → Contains (ps ++ x ∷ []) p
Contains-here [] x p e = (0, omega arith, e)
Contains-here (q ∷ qs) x p e = let c = Contains-here qs x p e in (suc c.0, omega (arith, c.1), c.2)

pub rises-last : (ps : List Period) (x : Period) → AllPairs (λ p q. period_cmp p q ≡ Less) ps
    → ((p : Period) → Contains ps p → period_cmp p x ≡ Less)
    → AllPairs (λ p q. period_cmp p q ≡ Less) (ps ++ x ∷ [])
rises-last ps x up below i j d h k = elim (cases_lt j (length ps)) [
  | inl l ↦ subst (λ q. period_cmp q (get_or (ps ++ x ∷ []) j d) ≡ Less)
      (sym (get_or_append_left ps (x ∷ []) d i (omega arith)))
      (subst (λ q. period_cmp (get_or ps i d) q ≡ Less) (sym (get_or_append_left ps (x ∷ []) d j l))
      (up i j d h l))
  | inr l ↦
      (let e : j ≡ length ps + 0 = omega (arith, length-append ps (x ∷ [])) in
      let last : get_or (ps ++ x ∷ []) j d ≡ x = ap (λ n. get_or (ps ++ x ∷ []) n d) e
      ∙ get_or-append-add ps (x ∷ []) 0 d in
      let front : get_or (ps ++ x ∷ []) i d ≡ get_or ps i d = get_or_append_left ps (x ∷ []) d i
      (omega arith) in
      subst (λ q. period_cmp (get_or (ps ++ x ∷ []) i d) q ≡ Less) (sym last)
      (subst (λ q. period_cmp q x ≡ Less) (sym front) (below (get_or ps i d)
      (Contains-get_or ps i d (omega arith)))))
]

-- the same tuple or another
pub cases-tuple : (v w : Tuple) → (v ≡ w) ⊎ (v ≢ w)
cases-tuple v w = by (tuple_eq v w) (tuple_eq-Decides v w)
  where
    by : (b : Bool) → (b ≡ true → v ≡ w) × (v ≡ w → b ≡ true) → (v ≡ w) ⊎ (v ≢ w)
    by true d = inl (d.0 refl)
    by false d = inr (λ e. cc (d.1 e))

nat-less : (m n : ℕ) → m < n → nat_cmp m n ≡ Less
nat-less m n h = grind (arith, nat_tests)

nat-equal : (m n : ℕ) → m ≡ n → nat_cmp m n ≡ Equal
nat-equal m n h = grind (arith, nat_tests)

-- what starts no later and ends before comes before
pub ends-less : (p q : Period) → p.start ≤ q.start → p.end < q.end → period_cmp p q ≡ Less
ends-less p q h k = elim (cases_lt p.start q.start) [
  | inl b ↦ by (nat_cmp p.start q.start) (nat_cmp p.end q.end) (tuple_cmp p.tuple q.tuple)
      (inl (nat-less p.start q.start b))
  | inr b ↦ by (nat_cmp p.start q.start) (nat_cmp p.end q.end) (tuple_cmp p.tuple q.tuple)
      (inr (nat-equal p.start q.start (omega arith), nat-less p.end q.end k))
]
  where
    by : (a b c : Ordering) → (a ≡ Less) ⊎ ((a ≡ Equal) × (b ≡ Less))
        → ordering_then a (ordering_then b c) ≡ Less
    by a b c (inl h) = rw h refl
    by a b c (inr h) = rw h.0 (rw h.1 refl)

-- the numbers may differ from where they are settled on
pub settled-agree : (f g : Tuple → ℕ → ℕ) (until : Tuple → ℕ) (given : List Period) (level : Tuple
    → Option Level) (open_at : ℕ × Tuple → Option ℕ) (closed : ℕ × ℕ × Tuple
    → Option ℕ) → ((v : Tuple) (t : ℕ) → t < until v → f v t ≡ g v t) → AreSettled f until given
    level open_at closed → AreSettled g until given level open_at closed
settled-agree f g until given level open_at closed same s = record {
  levels = λ v. LevelIs-upto (f v) (g v) (until v) (level v) (same v) (s.levels v);
  opens = s.opens;
  opened = s.opened;
  sound = λ a e c v h.
      (let k = s.sound a e c v h in
      let b : e < until v = k.1 in
      (IsLongestPeriod-upto (f v) (g v) a e c (λ t l. same v t (omega arith)) k.0, k.1));
  complete = λ p h k. s.complete p (IsLongestPeriod-upto (g p.tuple) (f p.tuple) p.start p.end
      p.copies (λ t l. sym (same p.tuple t (omega arith))) h) k;
  gave = λ p h.
      (let b : p.end < until p.tuple = s.passed p p.tuple h in
      IsLongestPeriod-upto (f p.tuple) (g p.tuple) p.start p.end p.copies (λ t l. same p.tuple t
      (omega arith)) (s.gave p h));
  passed = s.passed;
  under = s.under;
  above = s.above;
  rising = s.rising;
}

-- more instants, at which no number turns
pub settled-raise : (f : Tuple → ℕ → ℕ) (until later : Tuple → ℕ) (given : List Period)
    (level : Tuple → Option Level) (open_at : ℕ × Tuple → Option ℕ) (closed : ℕ × ℕ × Tuple
    → Option ℕ) → ((v : Tuple) → until v ≤ later v) → ((v : Tuple) (t : ℕ) → until v ≤ t
    → t < later v → IsFlat (f v) t) → ((v : Tuple) (t : ℕ) → horizon ≤ t
    → f v t ≡ 0) → AreSettled f until given level open_at closed → AreSettled f later given level
    open_at closed
settled-raise f until later given level open_at closed up flat zeros s = record {
  levels = λ v. level-raise (f v) (until v) (later v) (level v) (up v) (s.levels v) (flat v);
  opens = s.opens;
  opened = s.opened;
  sound = λ a e c v h. (let k = s.sound a e c v h in let b : e < until v = k.1 in let u : until v
      ≤ later v = up v in (k.0, omega arith));
  complete = λ p h k. elim (cases_lt p.end (until p.tuple)) [
    | inl b ↦ s.complete p h b
    | inr b ↦ absurd (flat-no_end (f p.tuple) p.start p.end p.copies h (flat p.tuple p.end b k)
        (zeros p.tuple))
  ];
  gave = s.gave;
  passed = λ p v h. (let b : p.end < until v = s.passed p v h in let u : until v ≤ later v =
      up v in omega arith);
  under = s.under;
  above = s.above;
  rising = s.rising;
}

-- At the instant the number of copies of the tuple turns.
module _ (f : Tuple → ℕ → ℕ) (until later : Tuple → ℕ) (given : List Period) (level level' : Tuple
    → Option Level) (open_at between open_at' : ℕ × Tuple
    → Option ℕ) (closed closed' : ℕ × ℕ × Tuple → Option ℕ) (tuple : Tuple) (at now : ℕ) where
  -- what is known of the move
  pub record Turns : Type 0 where
    pub here : until tuple ≡ at
    pub most : at ≤ horizon
    pub is : f tuple at ≡ now
    pub turns : now ≢ copies_of (level tuple)
    pub next : later tuple ≡ at + 1
    pub others : (v : Tuple) → v ≢ tuple → later v ≡ until v
    pub ends : EndsPiece (level tuple) at tuple open_at between closed closed'
    pub begins : BeginsPiece now at tuple level level' between open_at'

  module _ (s : AreSettled f until given level open_at closed) (m : Turns) where
    level-here : LevelIs (f tuple) at (level tuple)
    level-here = subst (λ n. LevelIs (f tuple) n (level tuple)) m.here (s.levels tuple)

    -- no piece of the tuple is open in between
    between-none : (l : Option Level) → l ≡ level tuple
        → EndsPiece l at tuple open_at between closed closed' → (a : ℕ) → between (a, tuple) ≡ None
    between-none None e h a = none (open_at (a, tuple)) refl
      where
        none : (o : Option ℕ) → o ≡ open_at (a, tuple) → between (a, tuple) ≡ None
        none None k = h.0 (a, tuple) ∙ sym k
        none (Some c) k = absurd (cc (s.opens a c tuple (sym k), e))
    between-none (Some l) e h a = elim (cases_eq a l.since) [
      | inl same ↦ subst (λ n. between (n, tuple) ≡ None) (sym same) h.0.here
      | inr apart ↦ none apart (open_at (a, tuple)) refl
    ]
      where
        none : a ≢ l.since → (o : Option ℕ) → o ≡ open_at (a, tuple) → between (a, tuple) ≡ None
        none apart None k = h.0.others (a, tuple) (λ q. apart (ap (λ (x : ℕ × Tuple). x.0) q))
            ∙ sym k
        none apart (Some c) k = absurd (apart (since a c l (sym (s.opens a c tuple (sym k)) ∙ sym
            e)))
          where
            since : (a c : ℕ) (l : Level) → ◌≡◌ {A = Option Level}
                (Some (record { since = a; copies = c })) (Some l) → a ≡ l.since
            since a c l e = ap since_of e

    between-others : (l : Option Level) → EndsPiece l at tuple open_at between closed closed'
        → (a : ℕ) (v : Tuple) → v ≢ tuple → between (a, v) ≡ open_at (a, v)
    between-others None h a v apart = h.0 (a, v)
    between-others (Some l) h a v apart = h.0.others (a, v) (λ q. apart (ap (λ (x : ℕ × Tuple). x.1)
        q))

    some-now : 1 ≤ now → level' tuple ≡ Some (record { since = at; copies = now })
    some-now h = m.begins.levels.here ∙ cond-true (nat_lt 0 now) _ _ (lt-ltb 0 now (omega arith))

    none-now : now ≡ 0 → level' tuple ≡ None
    none-now h = m.begins.levels.here ∙ cond-false (nat_lt 0 now) _ _ (le-ltb 0 now (omega arith))

    -- the open pieces afterwards
    open-own : (a : ℕ) → (1 ≤ now) × (a ≡ at) × (open_at' (a, tuple) ≡ Some now)
        ⊎ ((a ≢ at ⊎ now ≡ 0) × (open_at' (a, tuple) ≡ None))
    open-own a = elim (cases_lt 0 now) [
      | inl h ↦ elim (cases_eq a at) [
        | inl e ↦ inl (
          omega arith,
          e,
          subst (λ n. open_at' (n, tuple) ≡ Some now) (sym e)
              (m.begins.opens (omega arith)).here,
        )
        | inr n ↦ inr (
          inl n,
          (m.begins.opens (omega arith)).others (a, tuple)
              (λ q. n (ap (λ (x : ℕ × Tuple). x.0) q)) ∙ between-none (level tuple) refl m.ends a,
        )
      ]
      | inr h ↦ (let z : now ≡ 0 = omega arith in inr (
        inr z,
        m.begins.stays z (a, tuple)
            ∙ between-none (level tuple) refl m.ends a,
      ))
    ]

    open-others : (a : ℕ) (v : Tuple) → v ≢ tuple → open_at' (a, v) ≡ open_at (a, v)
    open-others a v apart = elim (cases_lt 0 now) [
      | inl h ↦ (m.begins.opens (omega arith)).others (a, v)
          (λ q. apart (ap (λ (x : ℕ × Tuple). x.1) q)) ∙ between-others (level tuple) m.ends a v
          apart
      | inr h ↦ m.begins.stays (omega arith) (a, v) ∙ between-others (level tuple) m.ends a v apart
    ]

    level-others : (v : Tuple) → v ≢ tuple → level' v ≡ level v
    level-others v apart = m.begins.levels.others v apart

    later-up : (v : Tuple) → until v ≤ later v
    later-up v = elim (cases-tuple v tuple) [
      | inl e ↦ subst (λ w. until w ≤ later w) (sym e) (omega (arith, m.here, m.next))
      | inr n ↦ omega (arith, m.others v n)
    ]

    level-own : LevelIs (f tuple) (at + 1) (level' tuple)
    level-own = elim (cases_lt 0 now) [
      | inl h ↦ subst (LevelIs (f tuple) (at + 1)) (sym (some-now (omega arith)))
          (level-new (f tuple) at now (level tuple) level-here m.is (omega arith) m.turns)
      | inr h ↦
          (let z : now ≡ 0 = omega arith in
          let e : at ≡ (at + 1) - 1 = omega arith in
          subst (LevelIs (f tuple) (at + 1)) (sym (none-now z)) (λ k. subst (λ t. f tuple t ≡ 0) e
          (m.is ∙ z)))
    ]

    -- what is closed afterwards
    closed-cases : (l : Option Level) → EndsPiece l at tuple open_at between closed closed'
        → (a e c : ℕ) (v : Tuple) → closed' (a, e, v) ≡ Some c
        → (closed (a, e, v) ≡ Some c) ⊎ ((l ≡ Some (record { since = a; copies = c })) × (e ≡ at)
        × (v ≡ tuple))
    closed-cases None h a e c v k = inl (sym (h.1 (a, e, v)) ∙ k)
    closed-cases (Some l) h a e c v k = elim (cases_eq a l.since) [
      | inl x ↦ elim (cases_eq e at) [
        | inl y ↦ elim (cases-tuple v tuple) [
          | inl z ↦
              (let own : closed' (a, e, v) ≡ Some l.copies = subst (λ q. closed' q ≡ Some l.copies)
              (λ i. (sym x i, sym y i, sym z i)) h.1.here in
              let copies : l.copies ≡ c = some-injective l.copies c (sym own ∙ k) in
              inr ((λ i. Some (record { since = sym x i; copies = copies i })), y, z))
          | inr z ↦ inl (sym (h.1.others (a, e, v) (λ q. z (ap (λ (x : ℕ × ℕ × Tuple). x.2) q)))
              ∙ k)
        ]
        | inr y ↦ inl (sym (h.1.others (a, e, v) (λ q. y (ap (λ (x : ℕ × ℕ × Tuple). x.1) q))) ∙ k)
      ]
      | inr x ↦ inl (sym (h.1.others (a, e, v) (λ q. x (ap (λ (x : ℕ × ℕ × Tuple). x.0) q))) ∙ k)
    ]
      where
        some-injective : (m n : ℕ) → Some m ≡ Some n → m ≡ n
        some-injective m n e = cc

    closed-kept : (l : Option Level) → EndsPiece l at tuple open_at between closed closed'
        → (a e : ℕ) (v : Tuple) → e ≢ at ⊎ v ≢ tuple → closed' (a, e, v) ≡ closed (a, e, v)
    closed-kept None h a e v k = h.1 (a, e, v)
    closed-kept (Some l) h a e v (inl k) = h.1.others (a, e, v)
        (λ q. k (ap (λ (x : ℕ × ℕ × Tuple). x.1) q))
    closed-kept (Some l) h a e v (inr k) = h.1.others (a, e, v)
        (λ q. k (ap (λ (x : ℕ × ℕ × Tuple). x.2) q))

    closed-new : (l : Option Level) → EndsPiece l at tuple open_at between closed closed'
        → (a c : ℕ) → l ≡ Some (record { since = a; copies = c }) → closed' (a, at, tuple) ≡ Some c
    closed-new None h a c e = absurd (cc)
    closed-new (Some l) h a c e =
        let x : l.since ≡ a = ap since_of e in
        let y : l.copies ≡ c = ap copies_of e in
        subst (λ n. closed' (n, at, tuple) ≡ Some c) x (h.1.here ∙ ap Some y)

    new-longest : (a c : ℕ) → level tuple ≡ Some (record { since = a; copies = c })
        → IsLongestPeriod (f tuple) a at c
    new-longest a c e =
        let l : IsLevel (f tuple) at a c = subst (LevelIs (f tuple) at) e level-here in
        level-longest (f tuple) at a c l m.most (λ k. m.turns (sym m.is ∙ k ∙ sym (ap copies_of e)))

    sound : (a e c : ℕ) (v : Tuple) → closed' (a, e, v) ≡ Some c
        → IsLongestPeriod (f v) a e c × (e < later v)
    sound a e c v h = elim (closed-cases (level tuple) m.ends a e c v h) [
      | inl k ↦ (let o = s.sound a e c v k in let b : e < until v = o.1 in let u : until v ≤ later
          v = later-up v in (o.0, omega arith))
      | inr k ↦
          (let l : IsLongestPeriod (f v) a e c = subst (λ w. IsLongestPeriod (f w) a e c) (sym k.2)
          (subst (λ n. IsLongestPeriod (f tuple) a n c) (sym k.1) (new-longest a c k.0)) in
          let b : later v ≡ at + 1 = ap later k.2 ∙ m.next in
          let same : e ≡ at = k.1 in
          (l, omega arith))
    ]

    kept : (p : Period) → IsLongestPeriod (f p.tuple) p.start p.end p.copies → p.end < until p.tuple
        → p.end ≢ at ⊎ p.tuple ≢ tuple → (closed' (p.start, p.end, p.tuple) ≡ Some p.copies)
        ⊎ Contains given p
    kept p h k apart = elim (s.complete p h k) [
      | inl c ↦ inl (closed-kept (level tuple) m.ends p.start p.end p.tuple apart ∙ c)
      | inr c ↦ inr c
    ]

    complete : (p : Period) → IsLongestPeriod (f p.tuple) p.start p.end p.copies
        → p.end < later p.tuple → (closed' (p.start, p.end, p.tuple) ≡ Some p.copies) ⊎ Contains
        given p
    complete p h k = elim (cases-tuple p.tuple tuple) [
      | inl e ↦
          (let u : until p.tuple ≡ at = ap until e ∙ m.here in
          let n : later p.tuple ≡ at + 1 = ap later e ∙ m.next in
          elim (cases_eq p.end at) [
            | inl x ↦
                (let l : IsLongestPeriod (f tuple) p.start at p.copies = subst (λ w. IsLongestPeriod
                (f w) p.start at p.copies) e (subst (λ n. IsLongestPeriod (f p.tuple) p.start n
                p.copies) x h) in
                let own = level-ends (f tuple) at (level tuple) p.start p.copies level-here l in
                let c : closed' (p.start, at, tuple) ≡ Some p.copies = closed-new (level tuple)
                m.ends p.start p.copies own in
                inl (subst (λ q. closed' q ≡ Some p.copies) (λ i. (p.start, sym x i, sym e i)) c))
            | inr x ↦ kept p h (low p.end at (until p.tuple) (later p.tuple) u n k x) (inl x)
          ])
      | inr n ↦ kept p h (omega (arith, m.others p.tuple n)) (inr n)
    ]
      where
        low : (e at u l : ℕ) → u ≡ at → l ≡ at + 1 → e < l → e ≢ at → e < u
        low e at u l x y h n = elim (cases_lt e at) [
          | inl k ↦ omega arith
          | inr k ↦ absurd
              (n (omega arith))
        ]

    under : (p : Period) (a c : ℕ) (v : Tuple) → Contains given p → open_at' (a, v) ≡ Some c
        → p.start ≤ a
    under p a c v h k = elim (cases-tuple v tuple) [
      | inl e ↦
          (let o : open_at' (a, tuple) ≡ Some c = subst (λ w. open_at' (a, w) ≡ Some c) e k in
          elim (open-own a) [
            | inl x ↦
                (let proper : p.start < p.end = (s.gave p h).interval.0 in
                let b : p.end < until tuple = s.passed p tuple h in
                let y : a ≡ at = x.1 in
                omega (arith, m.here))
            | inr x ↦ absurd (none-some c (sym x.1 ∙ o))
          ])
      | inr n ↦ s.under p a c v h (sym (open-others a v n) ∙ k)
    ]
      where
        none-some : (c : ℕ) → ◌≡◌ {A = Option ℕ} None (Some c) → ⊥
        none-some c e = absurd (cc)

    above : (p : Period) (a e c : ℕ) (v : Tuple) → Contains given p → closed' (a, e, v) ≡ Some c
        → period_cmp p (record { start = a; end = e; copies = c; tuple = v }) ≡ Less
    above p a e c v h k = elim (closed-cases (level tuple) m.ends a e c v k) [
      | inl x ↦ s.above p a e c v h x
      | inr x ↦
          (let o : open_at (a, tuple) ≡ Some c = s.opened a c tuple x.0 in
          let b : p.end < until tuple = s.passed p tuple h in
          let y : e ≡ at = x.1 in
          ends-less p (record { start = a; end = e; copies = c; tuple = v })
          (s.under p a c tuple h o) (omega (arith, m.here)))
    ]

    opens : (a c : ℕ) (v : Tuple) → open_at' (a, v) ≡ Some c
        → level' v ≡ Some (record { since = a; copies = c })
    opens a c v k = elim (cases-tuple v tuple) [
      | inl e ↦
          (let o : open_at' (a, tuple) ≡ Some c = subst (λ w. open_at' (a, w) ≡ Some c) e k in
          elim (open-own a) [
            | inl x ↦
                (let copies : now ≡ c = some-injective now c (sym x.2 ∙ o) in
                ap level' e ∙ some-now x.0 ∙ (λ i. Some (record {
                  since = sym x.1 i;
                  copies =
                      copies i;
                })))
            | inr x ↦ absurd (none-some c (sym x.1 ∙ o))
          ])
      | inr n ↦ level-others v n ∙ s.opens a c v (sym (open-others a v n) ∙ k)
    ]
      where
        some-injective : (m n : ℕ) → Some m ≡ Some n → m ≡ n
        some-injective m n e = cc

        none-some : (c : ℕ) → ◌≡◌ {A = Option ℕ} None (Some c) → ⊥
        none-some c e = absurd (cc)

    opened : (a c : ℕ) (v : Tuple) → level' v ≡ Some (record { since = a; copies = c })
        → open_at' (a, v) ≡ Some c
    opened a c v k = elim (cases-tuple v tuple) [
      | inl e ↦
          (let l : level' tuple ≡ Some (record { since = a; copies = c }) = sym (ap level' e) ∙ k in
          elim (cases_lt 0 now) [
            | inl h ↦
                (let same : ◌≡◌ {A = Option Level} (Some (record { since = at; copies = now }))
                (Some (record { since = a; copies = c })) = sym (some-now (omega arith)) ∙ l in
                let x : at ≡ a = since at now a c same in
                let y : now ≡ c = copies at now a c same in
                subst (λ w. open_at' (a, w) ≡ Some c) (sym e) (subst (λ n. open_at' (n, tuple)
                ≡ Some c) x ((m.begins.opens (omega arith)).here ∙ ap Some y)))
            | inr h ↦ absurd (none a c (sym (none-now (omega arith)) ∙ l))
          ])
      | inr n ↦ open-others a v n ∙ s.opened a c v (sym (level-others v n) ∙ k)
    ]
      where
        since : (a c b d : ℕ) → ◌≡◌ {A = Option Level} (Some (record { since = a; copies = c }))
            (Some (record { since = b; copies = d })) → a ≡ b
        since a c b d e = ap since_of e

        copies : (a c b d : ℕ) → ◌≡◌ {A = Option Level} (Some (record { since = a; copies = c }))
            (Some (record { since = b; copies = d })) → c ≡ d
        copies a c b d e = ap copies_of e

        none : (a c : ℕ) → ◌≡◌ {A = Option Level} None (Some (record { since = a; copies = c })) → ⊥
        none a c e = absurd (cc)

    pub settled-turns : AreSettled f later given level' open_at' closed'
    settled-turns = record {
      levels = λ v. elim (cases-tuple v tuple) [
        | inl e ↦ subst (λ w. LevelIs (f w) (later w) (level' w)) (sym e)
            (subst (λ n. LevelIs (f tuple) n (level' tuple)) (sym m.next) level-own)
        | inr n ↦ subst (λ u. LevelIs (f v) u (level' v)) (sym (m.others v n))
            (subst (LevelIs (f v) (until v)) (sym (level-others v n)) (s.levels v))
      ];
      opens = opens;
      opened = opened;
      sound = sound;
      complete = complete;
      gave = s.gave;
      passed = λ p v h. (let b : p.end < until v = s.passed p v h in let u : until v ≤ later v =
          later-up v in omega arith);
      under = under;
      above = above;
      rising = s.rising;
    }

-- nothing is settled
pub settled-none : (f : Tuple → ℕ → ℕ) (level : Tuple → Option Level) (open_at : ℕ × Tuple
    → Option ℕ) (closed : ℕ × ℕ × Tuple → Option ℕ) → ((v : Tuple)
    → level v ≡ None) → ((s : ℕ) (v : Tuple) → open_at (s, v) ≡ None) → ((s e : ℕ) (v : Tuple)
    → closed (s, e, v) ≡ None) → AreSettled f (λ v. 0) [] level open_at closed
settled-none f level open_at closed no_level no_open no_closed = record {
  levels = λ v. subst (LevelIs (f v) 0) (sym (no_level v)) (λ h. absurd (omega arith));
  opens = λ s c v h. absurd (none-some c (sym (no_open s v) ∙ h));
  opened = λ s c v h. absurd (none-level s c (sym (no_level v) ∙ h));
  sound = λ s e c v h. absurd (none-some c (sym (no_closed s e v) ∙ h));
  complete = λ p h k. absurd (omega arith);
  gave = λ p h. absurd (omega (arith, h.1));
  passed = λ p v h. absurd (omega (arith, h.1));
  under = λ p s c v h k. absurd (omega (arith, h.1));
  above = λ p s e c v h k. absurd (omega (arith, h.1));
  rising = λ i j d h k. absurd (omega arith);
}
  where
    none-some : (c : ℕ) → ◌≡◌ {A = Option ℕ} None (Some c) → ⊥
    none-some c e = absurd (cc)

    none-level : (s c : ℕ) → ◌≡◌ {A = Option Level} None (Some (record { since = s; copies = c }))
        → ⊥
    none-level s c e = absurd (cc)

-- one more instant for one tuple, at which its number stays
pub settled-stays : (f : Tuple → ℕ → ℕ) (until later : Tuple → ℕ) (given : List Period)
    (level : Tuple → Option Level) (open_at : ℕ × Tuple → Option ℕ) (closed : ℕ × ℕ × Tuple
    → Option ℕ) (tuple : Tuple) (at : ℕ) → AreSettled f until given level open_at closed
    → until tuple ≡ at → f tuple at ≡ copies_of (level tuple)
    → ((v : Tuple) (t : ℕ) → horizon ≤ t → f v t ≡ 0) → later tuple ≡ at + 1
    → ((v : Tuple) → v ≢ tuple → later v ≡ until v) → AreSettled f later given level open_at closed
settled-stays f until later given level open_at closed tuple at s here is zeros next others =
    settled-raise f until later given level open_at closed up flat zeros s
  where
    up : (v : Tuple) → until v ≤ later v
    up v = elim (cases-tuple v tuple) [
      | inl e ↦ subst (λ w. until w ≤ later w) (sym e) (omega (arith, here, next))
      | inr n ↦ omega (arith, others v n)
    ]

    flat : (v : Tuple) (t : ℕ) → until v ≤ t → t < later v → IsFlat (f v) t
    flat v t h k = elim (cases-tuple v tuple) [
      | inl e ↦
          (let x : until v ≡ at = ap until e ∙ here in
          let y : later v ≡ at + 1 = ap later e ∙ next in
          let z : at ≡ t = omega arith in
          subst (λ w. IsFlat (f w) t) (sym e) (subst (IsFlat (f tuple)) z (level-flat (f tuple) at
          (level tuple) (subst (λ n. LevelIs (f tuple) n (level tuple)) here (s.levels tuple))
          is)))
      | inr n ↦ absurd (omega (arith, others v n))
    ]

-- a number turns at an instant up to the horizon alone
pub turns-within : (f : ℕ → ℕ) (at now : ℕ) (l : Option Level) → LevelIs f at l → f at ≡ now
    → now ≢ copies_of l → ((t : ℕ) → horizon ≤ t → f t ≡ 0) → at ≤ horizon
turns-within f at now l is own turns zeros = elim (cases_lt horizon at) [
  | inl h ↦
      (let z : f at ≡ 0 = zeros at (omega arith) in
      let b : f (at - 1) ≡ 0 = zeros (at - 1) (omega arith) in
      absurd (turns (sym own ∙ z ∙ sym b ∙ level-last f at l is (omega arith))))
  | inr h ↦ omega arith
]

-- A closed piece that is before all others, and that no open piece began before, is given.
module _ (f : Tuple → ℕ → ℕ) (until : Tuple → ℕ) (given : List Period) (level : Tuple
    → Option Level) (open_at : ℕ × Tuple → Option ℕ) (closed closed' : ℕ × ℕ × Tuple
    → Option ℕ) (a e c : ℕ) (v : Tuple) where
  -- what is known of the move
  pub record Leaves : Type 0 where
    pub known : (w : Tuple) → e < until w
    pub first : closed (a, e, v) ≡ Some c
    pub gone : IsPut closed closed' (a, e, v) None
    pub least : (b g d : ℕ) (w : Tuple) → closed' (b, g, w) ≡ Some d
        → period_cmp (record { start = a; end = e; copies = c; tuple = v })
        (record { start = b; end = g; copies = d; tuple = w }) ≡ Less
    pub free : (b d : ℕ) (w : Tuple) → open_at (b, w) ≡ Some d → a ≤ b

  module _ (s : AreSettled f until given level open_at closed) (m : Leaves) where
    taken : Period
    taken = record { start = a; end = e; copies = c; tuple = v }

    taken-longest : IsLongestPeriod (f v) a e c
    taken-longest = (s.sound a e c v m.first).0

    -- what was there and is not the key
    was : (b g d : ℕ) (w : Tuple) → closed' (b, g, w) ≡ Some d → closed (b, g, w) ≡ Some d
    was b g d w h = elim (cases-key b g w) [
      | inl k ↦ absurd (none-some d (sym m.gone.here ∙ subst (λ q. closed' q ≡ Some d) k h))
      | inr k ↦ sym (m.gone.others (b, g, w) k) ∙ h
    ]
      where
        none-some : (d : ℕ) → ◌≡◌ {A = Option ℕ} None (Some d) → ⊥
        none-some d e = absurd (cc)

        cases-key : (b g : ℕ) (w : Tuple) → (◌≡◌ {A = ℕ × ℕ × Tuple} (b, g, w) (a, e, v))
            ⊎ (◌≢◌ {A = ℕ × ℕ × Tuple} (b, g, w) (a, e, v))
        cases-key b g w = elim (cases_eq b a) [
          | inl x ↦ elim (cases_eq g e) [
            | inl y ↦ elim (cases-tuple w v) [
              | inl z ↦ inl (λ i. (x i, y i, z i))
              | inr z ↦ inr (λ q. z (ap (λ (x : ℕ × ℕ × Tuple). x.2) q))
            ]
            | inr y ↦ inr (λ q. y (ap (λ (x : ℕ × ℕ × Tuple). x.1) q))
          ]
          | inr x ↦ inr (λ q. x (ap (λ (x : ℕ × ℕ × Tuple). x.0) q))
        ]

    given-cases : (p : Period) → Contains (given ++ record {
      start = a;
      end = e;
      copies = c;
      tuple =
          v;
    } ∷ []) p → Contains given p ⊎ (record { start = a; end = e; copies = c; tuple = v } ≡ p)
    given-cases p h = Contains-last given (record { start = a; end = e; copies = c; tuple = v }) p h

    remains : (p : Period) → IsLongestPeriod (f p.tuple) p.start p.end p.copies
        → p.end < until p.tuple → (closed' (p.start, p.end, p.tuple) ≡ Some p.copies) ⊎ Contains
        (given ++ record { start = a; end = e; copies = c; tuple = v } ∷ []) p
    remains p h k = elim (s.complete p h k) [
      | inl x ↦ elim (cases_eq p.start a) [
        | inl y ↦ elim (cases_eq p.end e) [
          | inl z ↦ elim (cases-tuple p.tuple v) [
            | inl w ↦
                (let copies : c ≡ p.copies = some-injective c p.copies (sym m.first ∙ subst
                (λ q. closed q ≡ Some p.copies) (λ i. (y i, z i, w i)) x) in
                inr (Contains-here given _ p (λ i. record {
                  start = sym y i;
                  end = sym z i;
                  copies =
                      copies i;
                  tuple = sym w i;
                })))
            | inr w ↦ inl (m.gone.others (p.start, p.end, p.tuple)
                (λ q. w (ap (λ (x : ℕ × ℕ × Tuple). x.2) q)) ∙ x)
          ]
          | inr z ↦ inl (m.gone.others (p.start, p.end, p.tuple)
              (λ q. z (ap (λ (x : ℕ × ℕ × Tuple). x.1) q)) ∙ x)
        ]
        | inr y ↦ inl (m.gone.others (p.start, p.end, p.tuple)
            (λ q. y (ap (λ (x : ℕ × ℕ × Tuple). x.0) q)) ∙ x)
      ]
      | inr x ↦ inr (Contains-before given _ p x)
    ]
      where
        some-injective : (m n : ℕ) → Some m ≡ Some n → m ≡ n
        some-injective m n e = cc

    pub settled-gives : AreSettled f until (given ++ record {
      start = a;
      end = e;
      copies =
          c;
      tuple = v;
    } ∷ []) level open_at closed'
    settled-gives = record {
      levels = s.levels;
      opens = s.opens;
      opened = s.opened;
      sound = λ b g d w h. s.sound b g d w (was b g d w h);
      complete = remains;
      gave = λ p h. elim (given-cases p h) [
        | inl x ↦ s.gave p x
        | inr x ↦ subst (λ (q : Period). IsLongestPeriod (f q.tuple) q.start q.end q.copies) x
            taken-longest
      ];
      passed = λ p w h. elim (given-cases p h) [
        | inl x ↦ s.passed p w x
        | inr x ↦ subst (λ (q : Period). q.end < until w) x (m.known w)
      ];
      under = λ p b d w h k. elim (given-cases p h) [
        | inl x ↦ s.under p b d w x k
        | inr x ↦ subst (λ (q : Period). q.start ≤ b) x (m.free b d w k)
      ];
      above = λ p b g d w h k. elim (given-cases p h) [
        | inl x ↦ s.above p b g d w x (was b g d w k)
        | inr x ↦ subst (λ (q : Period). period_cmp q (record {
          start = b;
          end = g;
          copies =
              d;
          tuple = w;
        }) ≡ Less) x (m.least b g d w k)
      ];
      rising = rises-last given (record { start = a; end = e; copies = c; tuple = v }) s.rising
          (λ p h. s.above p a e c v h m.first);
    }
