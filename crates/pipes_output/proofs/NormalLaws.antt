-- The normal text of rows: there is one, and it depends on the rows at each instant alone.
use Rattle.std.proofs.Common.{◌≡◌, ◌⊎◌, ℕ, zero, suc, ◌<◌, List, [], ◌∷◌, length}
use Rattle.std.proofs.Common.{get_or, refl, sym, ◌∙◌, ap, arith, inl, inr}
use Rattle.std.specs.List.{All, AllPairs, Contains, flat_map}
use Rattle.std.specs.declared.cmp.Ordering.{Ordering}
use Rattle.std.specs.declared.cmp.Ordering.TheVariants.{Less}
use Rattle.std.specs.Ordering.{ordering_reverse}
use Rattle.std.proofs.lemmas.Cmp.{tied_itself}
use Rattle.std.proofs.lemmas.List.Elements.{All-contains}
use Rattle.pipes_tuple.specs.declared.value.Value.{Value}
use Rattle.pipes_tuple.specs.Bag.{count}
use Rattle.pipes_output.specs.Periods.{Period}
use Rattle.pipes_output.specs.NormalText.{IsPeriod, IsNormal, SameRows, OneNormalText}
use Rattle.pipes_output.specs.NormalText.{period_cmp, period_line}
use Rattle.pipes_output.proofs.Grouping.{IsLongestPeriod-same}
use Rattle.pipes_output.proofs.Ordering.{period_cmp-total}

-- the same rows have the same periods
pub IsPeriod-same : (rows others : ℕ → List (List Value)) → SameRows rows others → (p : Period)
    → IsPeriod rows p → IsPeriod others p
IsPeriod-same rows others same p h = IsLongestPeriod-same (λ t. count p.tuple (rows t))
    (λ t. count p.tuple (others t)) p.start p.end p.copies (λ t k. (same t k).counts p.tuple) h

pub SameRows-sym : (rows others : ℕ → List (List Value)) → SameRows rows others
    → SameRows others rows
SameRows-sym rows others same t h = record { counts = λ tuple. sym ((same t h).counts tuple) }

-- and the same normal list
pub IsNormal-same : (rows others : ℕ → List (List Value)) (periods : List Period)
    → SameRows rows others → IsNormal rows periods → IsNormal others periods
IsNormal-same rows others periods same normal = record {
  exact = λ p. (
    λ c. IsPeriod-same rows others same p ((normal.exact p).0 c),
    λ h. (normal.exact p).1 (IsPeriod-same others rows (SameRows-sym rows others same) p h),
  );
  ordered = normal.ordered;
}

abbrev pub Rises : List Period → Type 0
Rises ps = AllPairs (λ p q. period_cmp p q ≡ Less) ps

pub rises-first : (p : Period) (ps : List Period) → Rises (p ∷ ps)
    → All (λ q. period_cmp p q ≡ Less) ps
rises-first p ps up k d h = up 0 (suc k) d (omega arith) (omega arith)

pub rises-rest : (p : Period) (ps : List Period) → Rises (p ∷ ps) → Rises ps
rises-rest p ps up i j d h k = up (suc i) (suc j) d (omega arith) (omega arith)

pub first-or-rest : (p x : Period) (ps : List Period) → Contains (p ∷ ps) x
    → (p ≡ x) ⊎ Contains ps x
first-or-rest p x ps c = by c.0 c.1 c.2
  where
    by : (k : ℕ) → k < length (p ∷ ps) → get_or (p ∷ ps) k x ≡ x → (p ≡ x) ⊎ Contains ps x
    by zero h e = inl e
    by (suc k) h e = inr (k, omega arith, e)

pub in-rest : (p x : Period) (ps : List Period) → Contains ps x → Contains (p ∷ ps) x
in-rest p x ps c = (suc c.0, omega (arith, c.1), c.2)

pub in-first : (p : Period) (ps : List Period) → Contains (p ∷ ps) p
in-first p ps = (0, omega arith, refl)

pub nothing-in : (x : Period) → Contains [] x → ⊥
nothing-in x c = omega (arith, c.1)

pub not-both : (p q : Period) → period_cmp p q ≡ Less → period_cmp q p ≡ Less → ⊥
not-both p q h k = by (period_cmp p q) (period_cmp q p) h k (period_cmp-total.antisymm p q)
  where
    by : (a b : Ordering) → a ≡ Less → b ≡ Less → a ≡ ordering_reverse b → ⊥
    by a b h k e = absurd (cc (ap ordering_reverse k))

pub not-itself : (p q : Period) → period_cmp p q ≡ Less → p ≡ q → ⊥
not-itself p q h e = cc (tied_itself period_cmp-total p, ap (λ (r : Period). period_cmp p r) e)

-- two rising lists of the same periods are one
same-list : (ps qs : List Period) → Rises ps → Rises qs
    → ((x : Period) → Contains ps x → Contains qs x)
    → ((x : Period) → Contains qs x → Contains ps x) → ps ≡ qs
same-list [] [] up over to from = refl
same-list [] (q ∷ qs) up over to from = absurd (nothing-in q (from q (in-first q qs)))
same-list (p ∷ ps) [] up over to from = absurd (nothing-in p (to p (in-first p ps)))
same-list (p ∷ ps) (q ∷ qs) up over to from =
    let first : p ≡ q = one (first-or-rest q p qs (to p (in-first p ps)))
    (first-or-rest p q ps (from q (in-first q qs))) in
    let rest : ps ≡ qs = same-list ps qs (rises-rest p ps up) (rises-rest q qs over)
    (λ x c. later first x c (first-or-rest q x qs (to x (in-rest p x ps c))))
    (λ x c. earlier first x c (first-or-rest p x ps (from x (in-rest q x qs c)))) in
    (λ i. first i ∷ rest i)
  where
    one : (q ≡ p) ⊎ Contains qs p → (p ≡ q) ⊎ Contains ps q → p ≡ q
    one (inl e) k = sym e
    one (inr c) (inl e) = e
    one (inr c) (inr d) = absurd
        (not-both p q (All-contains (λ r. period_cmp p r ≡ Less) ps q (rises-first p ps up) d)
        (All-contains (λ r. period_cmp q r ≡ Less) qs p (rises-first q qs over) c))

    later : p ≡ q → (x : Period) → Contains ps x → (q ≡ x) ⊎ Contains qs x → Contains qs x
    later first x c (inl e) = absurd
        (not-itself p x (All-contains (λ r. period_cmp p r ≡ Less) ps x (rises-first p ps up) c)
        (first ∙ e))
    later first x c (inr d) = d

    earlier : p ≡ q → (x : Period) → Contains qs x → (p ≡ x) ⊎ Contains ps x → Contains ps x
    earlier first x c (inl e) = absurd
        (not-itself q x (All-contains (λ r. period_cmp q r ≡ Less) qs x (rises-first q qs over) c)
        (sym first ∙ e))
    earlier first x c (inr d) = d

pub one-normal-text : OneNormalText
one-normal-text = record {
  kept = λ rows others text same h.
      record {
        periods = h.periods;
        normal = IsNormal-same rows others h.periods same h.normal;
        lines = h.lines;
      };
  only = λ rows text other h k.
      (let same : h.periods ≡ k.periods =
      same-list h.periods k.periods h.normal.ordered k.normal.ordered
      (λ x c. (k.normal.exact x).1 ((h.normal.exact x).0 c))
      (λ x c. (h.normal.exact x).1 ((k.normal.exact x).0 c)) in
      h.lines ∙ ap (λ (ps : List Period). flat_map period_line ps) same ∙ sym k.lines);
}
