-- What was given is a prefix of the normal text of whatever comes, and all of it in the end.
use Rattle.std.proofs.Common.{◌≡◌, ◌⊎◌, ℕ, ◌≤◌, ◌<◌, List, [], ◌∷◌, ◌++◌, Option, Some, refl, sym}
use Rattle.std.proofs.Common.{◌∙◌, ap, subst, arith, inl, inr, append-nil, append_assoc}
use Rattle.std.specs.List.{Contains, flat_map}
use Rattle.std.specs.declared.cmp.Ordering.TheVariants.{Less}
use Rattle.std.specs.BTreeMap.{get}
use Rattle.std.proofs.lemmas.Bool.{cases_lt}
use Rattle.std.proofs.lemmas.List.Concat.{flat_map-append}
use Rattle.std.proofs.lemmas.List.Elements.{All-contains, All-nil, All-append, All-weaker}
use Rattle.pipes_time.specs.Interval.{horizon, closed}
use Rattle.pipes_tuple.specs.declared.value.Value.{Value}
use Rattle.pipes_stream.specs.declared.Elem.{Elem}
use Rattle.pipes_stream.specs.Snapshot.{snapshot}
use Rattle.pipes_output.specs.Periods.{Period}
use Rattle.pipes_output.specs.NormalText.{IsLongestPeriod, IsNormalText, period_cmp, period_line}
use Rattle.pipes_settled.specs.declared.pieces.Level.{Level}
use Rattle.pipes_settled.specs.declared.settled.Settled.{Settled}
use Rattle.pipes_output.proofs.Elements.{IsElem}
use Rattle.pipes_settled.specs.Certainty.{AreIntervals, StartFrom, IsPrefix, IsCertain, CertainLaws}
use Rattle.pipes_settled.specs.Standing.{AreSettled, Stands, number, at_cmp}
use Rattle.pipes_output.proofs.NormalLaws.{Rises, rises-first, rises-rest, first-or-rest, in-rest}
use Rattle.pipes_output.proofs.NormalLaws.{in-first, nothing-in, not-both, not-itself}
use Rattle.pipes_settled.proofs.Leveling.{level-is, level-none}
use Rattle.pipes_settled.proofs.Instants.{number-last, number-agrees}
use Rattle.pipes_settled.proofs.Moving.{Tuple, ends-less, settled-agree}

-- a rising list whose items are in another, with no item of the other before them, begins it
pub begins-with : (ps qs : List Period) → Rises ps → Rises qs
    → ((x : Period) → Contains ps x → Contains qs x)
    → ((x : Period) → Contains qs x → Contains ps x ⊎ ((y : Period) → Contains ps y → period_cmp y x
    ≡ Less)) → (rest : List Period) × (qs ≡ ps ++ rest)
begins-with [] qs up over to from = (qs, refl)
begins-with (p ∷ ps) [] up over to from = absurd (nothing-in p (to p (in-first p ps)))
begins-with (p ∷ ps) (q ∷ qs) up over to from =
    let same : p ≡ q = one (first-or-rest q p qs (to p (in-first p ps))) (from q (in-first q qs)) in
    let rest = begins-with ps qs (rises-rest p ps up) (rises-rest q qs over)
    (λ x c. later same x c (first-or-rest q x qs (to x (in-rest p x ps c))))
    (λ x c. earlier same x c (from x (in-rest q x qs c))) in
    (rest.0, (λ i. sym same i ∷ rest.1 i))
  where
    less : (x : Period) → Contains ps x → period_cmp p x ≡ Less
    less x c = All-contains (λ r. period_cmp p r ≡ Less) ps x (rises-first p ps up) c

    more : (x : Period) → Contains qs x → period_cmp q x ≡ Less
    more x c = All-contains (λ r. period_cmp q r ≡ Less) qs x (rises-first q qs over) c

    after : Contains (p ∷ ps) q ⊎ ((y : Period) → Contains (p ∷ ps) y → period_cmp y q ≡ Less)
        → (p ≡ q) ⊎ (period_cmp p q ≡ Less)
    after (inl c) = elim (first-or-rest p q ps c) [ inl e ↦ inl e | inr d ↦ inr (less q d) ]
    after (inr k) = inr (k p (in-first p ps))

    one : (q ≡ p) ⊎ Contains qs p → Contains (p ∷ ps) q ⊎ ((y : Period) → Contains (p ∷ ps) y
        → period_cmp y q ≡ Less) → p ≡ q
    one (inl e) k = sym e
    one (inr c) k = elim (after k) [
      | inl e ↦ e
      | inr h ↦ absurd (not-both p q h (more p c))
    ]

    later : p ≡ q → (x : Period) → Contains ps x → (q ≡ x) ⊎ Contains qs x → Contains qs x
    later same x c (inl e) = absurd (not-itself p x (less x c) (same ∙ e))
    later same x c (inr d) = d

    earlier : p ≡ q → (x : Period) → Contains qs x
        → Contains (p ∷ ps) x ⊎ ((y : Period) → Contains (p ∷ ps) y → period_cmp y x ≡ Less)
        → Contains ps x ⊎ ((y : Period) → Contains ps y → period_cmp y x ≡ Less)
    earlier same x c (inl k) = elim (first-or-rest p x ps k) [
      | inl e ↦ absurd (not-itself q x (more x c) (sym same ∙ e))
      | inr d ↦ inl d
    ]
    earlier same x c (inr k) = inr (λ y d. k y (in-rest p y ps d))

-- with numbers that are known before h, what was given begins each normal list
module _ (f : Tuple → ℕ → ℕ) (h : ℕ) (given : List Period) (level : Tuple → Option Level)
    (open_at : ℕ × Tuple → Option ℕ) (shut : ℕ × ℕ × Tuple → Option ℕ) (s : AreSettled f
    (λ v. h) given level open_at shut) where
  before-late : (x : Period) → IsLongestPeriod (f x.tuple) x.start x.end x.copies → h ≤ x.end
      → (y : Period) → Contains given y → y.start ≤ x.start
  before-late x l k y c =
      let proper : y.start < y.end = (s.gave y c).interval.0 in
      let known : y.end < h = s.passed y x.tuple c in
      elim (cases_lt x.start h) [
        | inl b ↦ s.under y x.start x.copies x.tuple c (s.opened x.start x.copies x.tuple
            (level-is (f x.tuple) h (level x.tuple) x.start x.end x.copies (s.levels x.tuple) l b
            k))
        | inr b ↦ omega arith
      ]

  pub before-others : (x : Period) → IsLongestPeriod (f x.tuple) x.start x.end x.copies
      → Contains given x ⊎ ((y : Period) → Contains given y → period_cmp y x ≡ Less)
  before-others x l = elim (cases_lt x.end h) [
    | inl b ↦ elim (s.complete x l b) [
      | inl c ↦ inr (λ y d. s.above y x.start x.end x.copies x.tuple d c)
      | inr c ↦ inl c
    ]
    | inr b ↦ inr (λ y d. let known : y.end < h = s.passed y x.tuple d in ends-less y x
        (before-late x l b y d) (omega arith))
  ]

-- whatever comes
pub certain : (elems : List Elem) (h : ℕ) (text : List ℕ) (settled : Settled)
    → Stands elems h text settled → IsCertain elems h text
certain elems h text settled s more whole intervals from normal =
    let both : List Elem = elems ++ more in
    let p = settled-agree (number elems) (number (elems ++ more)) (λ v. h) s.given _ _ _
    (λ v t k. number-agrees elems more v t h from k) s.pieces in
    let begins = begins-with s.given normal.periods p.rising normal.normal.ordered
    (λ x c. (normal.normal.exact x).1 (p.gave x c))
    (λ x c. before-others (number (elems ++ more)) h s.given _ _ _ p x ((normal.normal.exact x).0
    c)) in (
      flat_map period_line begins.0,
      normal.lines ∙ ap (λ (ps : List Period). flat_map period_line
          ps) begins.1 ∙ flat_map-append period_line s.given begins.0 ∙ ap
          (λ (bs : List ℕ). bs ++ flat_map period_line begins.0) (sym s.lines),
    )

-- in the end
pub whole-text : (elems : List Elem) (text : List ℕ) (settled : Settled)
    → Stands elems closed text settled → IsNormalText (snapshot elems) text
whole-text elems text settled s = record {
  periods = s.given;
  normal = record {
    exact = λ p. (
      λ c. s.pieces.gave p c,
      λ l.
          (let most : p.end ≤ horizon = l.interval.1 in
          elim (s.pieces.complete p l (omega arith)) [
            | inl c ↦ absurd (none (s.waits p.start p.end p.copies p.tuple c))
            | inr c ↦ c
          ]),
    );
    ordered = s.pieces.rising;
  };
  lines = s.lines;
}
  where
    none : {a : ℕ} → (r : ℕ) × (d : ℕ) × (w : List Value) × (get at_cmp settled.pieces.opens (r, w)
        ≡ Some d) × (r < a) → ⊥
    none o = level-none (number elems o.2) closed _ (record { since = o.0; copies = o.1 })
        (s.pieces.levels o.2) (s.pieces.opens o.0 o.1 o.2 o.3) (omega arith)
        (number-last elems s.intervals o.2 horizon (omega arith))

-- a certain text is a prefix of that of the elements alone, and stays certain
pub certain-now : (elems : List Elem) (h : ℕ) (text whole : List ℕ) → IsCertain elems h text
    → IsNormalText (snapshot elems) whole → IsPrefix text whole
certain-now elems h text whole sure normal = sure [] whole (All-nil IsElem)
    (All-nil (λ (e : Elem). h ≤ e.span.start))
    (subst (λ (es : List Elem). IsNormalText (snapshot es) whole) (sym (append-nil elems)) normal)

pub certain-later : (elems more : List Elem) (h k : ℕ) (text : List ℕ) → AreIntervals more
    → StartFrom h more → h ≤ k → IsCertain elems h text → IsCertain (elems ++ more) k text
certain-later elems more h k text intervals from le sure others whole proper late normal =
    sure (more ++ others) whole (All-append IsElem more others intervals proper)
    (All-append (λ (e : Elem). h ≤ e.span.start) more others from
    (All-weaker (λ (e : Elem). k ≤ e.span.start) (λ (e : Elem). h ≤ e.span.start)
    (λ e w. omega (arith, le, w)) others late))
    (subst (λ (es : List Elem). IsNormalText (snapshot es) whole)
    (append_assoc elems more others) normal)

pub certain-laws : CertainLaws
certain-laws = record { now = certain-now; later = certain-later }
