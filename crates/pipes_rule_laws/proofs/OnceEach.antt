-- What doesn't change where each row is taken once.
use Rattle.std.proofs.Common.{◌≡◌, ℕ, ◌+◌, ◌≤◌, Bool, true, false, not, cond, List, [], ◌∷◌, ◌++◌}
use Rattle.std.proofs.Common.{map, length, refl, sym, ap, ◌∙◌, subst, arith, append_assoc}
use Rattle.std.proofs.Common.{length-append}
use Rattle.std.specs.List.{filter}
use Rattle.std.specs.Prelude.{nat_lt}
use Rattle.std.proofs.lemmas.Bool.Decides.{nat_tests}
use Rattle.pipes_tuple.specs.Equal.{tuple_eq}
use Rattle.pipes_tuple.specs.Bag.{count, SameBag}
use Rattle.pipes_tuple.proofs.Equality.{tuple_eq-Decides}
use Rattle.pipes_tuple.proofs.Perm.{Perm, keep, Perm-sym, Perm-prefix, Perm-map}
use Rattle.pipes_tuple.proofs.Bags.{SameBag-Perm, count-cons}
use Rattle.pipes_expr.specs.ExprValue.{Row}
use Rattle.pipes_relation.specs.Relations.{distinct}
use Rattle.pipes_relation.proofs.DistinctRows.{others}
use Rattle.pipes_rule_laws.proofs.FilterSound.{filter_exchange}
use Rattle.pipes_rule_laws.proofs.RowCounts.{any_once}

-- what is made of a list by its rows alone, however often and in which order they occur
pub record IsOfRows {V : Type 0} (made : List Row → V) : Type 0 where
  pub order : {xs ys : List Row} → Perm xs ys → made xs ≡ made ys
  pub copies : (x : Row) (xs : List Row) → made (x ∷ x ∷ xs) ≡ made (x ∷ xs)

module _ {V : Type 0} (made : List Row → V) (rows : IsOfRows made) where
  others_step : (x z : Row) (before zs : List Row) (b : Bool) → b ≡ tuple_eq z x
      → ((before : List Row) → made (x ∷ (before ++ others x zs)) ≡ made (x ∷ (before ++ zs)))
      → made (x ∷ (before ++ cond (not b) (z ∷ others x zs) (others x zs)))
      ≡ made (x ∷ (before ++ z ∷ zs))
  others_step x z before zs true e h =
      let same = (tuple_eq-Decides z x).0 (sym e) in
      h before ∙ sym (rows.copies x (before ++ zs))
      ∙ sym (rows.order (keep x (Perm-prefix x before zs)))
      ∙ ap (λ (y : Row). made (x ∷ (before ++ y ∷ zs))) (sym same)
  others_step x z before zs false e h =
      ap (λ (ys : List Row). made (x ∷ ys)) (sym (append_assoc before (z ∷ []) (others x zs)))
      ∙ h (before ++ z ∷ [])
      ∙ ap (λ (ys : List Row). made (x ∷ ys)) (append_assoc before (z ∷ []) zs)

  -- beside a row its copies don't count
  made_others : (x : Row) (zs before : List Row)
      → made (x ∷ (before ++ others x zs)) ≡ made (x ∷ (before ++ zs))
  made_others x [] before = refl
  made_others x (z ∷ zs) before =
      others_step x z before zs (tuple_eq z x) refl (made_others x zs)

  made_after : (xs before : List Row) → made (before ++ distinct xs) ≡ made (before ++ xs)
  made_after [] before = refl
  made_after (x ∷ xs) before =
      rows.order (Perm-prefix x before (others x (distinct xs)))
      ∙ made_others x (distinct xs) before
      ∙ made_after xs (x ∷ before)
      ∙ sym (rows.order (Perm-prefix x before xs))

  pub made-distinct : (xs : List Row) → made (distinct xs) ≡ made xs
  made-distinct xs = made_after xs []

once_of_copies : (b : Bool) (n : ℕ) → any_once (cond b 1 0 + (cond b 1 0 + n)) ≡ any_once
    (cond b 1 0 + n)
once_of_copies true n = grind (arith, nat_tests)
once_of_copies false n = ap any_once (omega arith)

-- whether a row is made of one of the rows
pub once_made : (f : Row → Row) (t : Row) → IsOfRows (λ xs. any_once (count t (map f xs)))
once_made f t = record {
  order = λ p. ap any_once ((SameBag-Perm (Perm-map f p)).counts t);
  copies = λ x xs. ap any_once (count-cons t (f x) (f x ∷ map f xs)
      ∙ ap (λ n. cond (tuple_eq (f x) t) 1 0 + n) (count-cons t (f x) (map f xs)))
      ∙ once_of_copies (tuple_eq (f x) t) (count t (map f xs))
      ∙ ap any_once (sym (count-cons t (f x) (map f xs)));
}

-- ---- what is made of different rows differs

module _ (f : Row → Row) (apart : (x y : Row) → f x ≡ f y → x ≡ y) (t : Row) where
  none_step : (x z : Row) (zs : List Row) (b c : Bool) → f x ≡ t → b ≡ tuple_eq z x
      → c ≡ tuple_eq (f z) t → count t (map f (others x zs)) ≡ 0
      → count t (map f (cond (not b) (z ∷ others x zs) (others x zs))) ≡ 0
  none_step x z zs true c e g h k = k
  none_step x z zs false true e g h k =
      let same = apart z x ((tuple_eq-Decides (f z) t).0 (sym h) ∙ sym e) in
      let w : false ≡ true = g ∙ (tuple_eq-Decides z x).1 same in cc
  none_step x z zs false false e g h k =
      let w : ◌≡◌ {A = ℕ} (cond (tuple_eq (f z) t) 1 0) 0 = ap (λ b. cond b 1 0) (sym h) in
      omega (arith, w, k, count-cons t (f z) (map f (others x zs)))

  none_of_others : (x : Row) (zs : List Row) → f x ≡ t → count t (map f (others x zs)) ≡ 0
  none_of_others x [] e = refl
  none_of_others x (z ∷ zs) e = none_step x z zs (tuple_eq z x) (tuple_eq (f z) t) e refl refl
      (none_of_others x zs e)

  fewer_step : (x z : Row) (zs : List Row) (b : Bool)
      → count t (map f (others x zs)) ≤ count t (map f zs)
      → count t (map f (cond (not b) (z ∷ others x zs) (others x zs))) ≤ count t (map f (z ∷ zs))
  fewer_step x z zs true h = omega (arith, h, count-cons t (f z) (map f zs))
  fewer_step x z zs false h = omega (
    arith,
    h,
    count-cons t (f z) (map f zs),
    count-cons t (f z) (map f (others x zs)),
  )

  fewer_others : (x : Row) (zs : List Row) → count t (map f (others x zs)) ≤ count t (map f zs)
  fewer_others x [] = omega arith
  fewer_others x (z ∷ zs) = fewer_step x z zs (tuple_eq z x) (fewer_others x zs)

  at_most_step : (x : Row) (xs : List Row) (b : Bool) → b ≡ tuple_eq (f x) t
      → count t (map f (distinct xs)) ≤ 1
      → count t (map f (x ∷ others x (distinct xs))) ≤ 1
  at_most_step x xs true e h =
      let w : ◌≡◌ {A = ℕ} (cond (tuple_eq (f x) t) 1 0) 1 = ap (λ b. cond b 1 0) (sym e) in
      omega (
        arith,
        w,
        count-cons t (f x) (map f (others x (distinct xs))),
        none_of_others x (distinct xs) ((tuple_eq-Decides (f x) t).0 (sym e)),
      )
  at_most_step x xs false e h =
      let w : ◌≡◌ {A = ℕ} (cond (tuple_eq (f x) t) 1 0) 0 = ap (λ b. cond b 1 0) (sym e) in
      omega (
        arith,
        w,
        h,
        count-cons t (f x) (map f (others x (distinct xs))),
        fewer_others x (distinct xs),
      )

  pub at_most_one : (xs : List Row) → count t (map f (distinct xs)) ≤ 1
  at_most_one [] = omega arith
  at_most_one (x ∷ xs) = at_most_step x xs (tuple_eq (f x) t) refl (at_most_one xs)

pub once_at_most : (n : ℕ) → n ≤ 1 → any_once n ≡ n
once_at_most n h = grind (arith, nat_tests)

-- ---- each row once among those that pass a test

none_kept_step : (test : Row → Bool) (x z : Row) (zs : List Row) (b c : Bool) → test x ≡ false
    → b ≡ test z → c ≡ tuple_eq z x → others x (filter test zs) ≡ filter test zs
    → others x (cond b (z ∷ filter test zs) (filter test zs))
    ≡ cond b (z ∷ filter test zs) (filter test zs)
none_kept_step test x z zs true true e g h k =
    let same = (tuple_eq-Decides z x).0 (sym h) in
    let w : true ≡ false = g ∙ ap test same ∙ e in cc
none_kept_step test x z zs true false e g h k =
    ap (λ b. cond (not b) (z ∷ others x (filter test zs)) (others x (filter test zs))) (sym h)
    ∙ ap (λ (ys : List Row). z ∷ ys) k
none_kept_step test x z zs false c e g h k = k

none_kept : (test : Row → Bool) (x : Row) → test x ≡ false → (zs : List Row)
    → others x (filter test zs) ≡ filter test zs
none_kept test x e [] = refl
none_kept test x e (z ∷ zs) = none_kept_step test x z zs (test z) (tuple_eq z x) e refl refl
    (none_kept test x e zs)

distinct_kept_step : (test : Row → Bool) (x : Row) (xs : List Row) (b : Bool) → b ≡ test x
    → distinct (filter test xs) ≡ filter test (distinct xs)
    → distinct (cond b (x ∷ filter test xs) (filter test xs))
    ≡ cond b (x ∷ filter test (others x (distinct xs))) (filter test (others x (distinct xs)))
distinct_kept_step test x xs true e h =
    ap (λ (ys : List Row). x ∷ ys) (ap (others x) h
    ∙ filter_exchange (λ y. not (tuple_eq y x)) test (distinct xs))
distinct_kept_step test x xs false e h =
    h ∙ sym (none_kept test x (sym e) (distinct xs))
    ∙ filter_exchange (λ y. not (tuple_eq y x)) test (distinct xs)

pub distinct-filter : (test : Row → Bool) (xs : List Row)
    → distinct (filter test xs) ≡ filter test (distinct xs)
distinct-filter test [] = refl
distinct-filter test (x ∷ xs) = distinct_kept_step test x xs (test x) refl
    (distinct-filter test xs)
