-- Each row of a join once, or the rows of each side once.
use Rattle.std.proofs.Common.{◌≡◌, ℕ, ◌+◌, ◌<◌, ◌≤◌, Bool, true, false, not, cond, List, [], ◌∷◌}
use Rattle.std.proofs.Common.{◌++◌, length, take, get_or, refl, sym, ap, ◌∙◌, arith}
use Rattle.std.specs.Prelude.{nat_lt}
use Rattle.std.specs.List.{All, filter, flat_map}
use Rattle.std.proofs.lemmas.Bool.Decides.{nat_tests}
use Rattle.std.proofs.lemmas.Grind.{flat_map-append}
use Rattle.std.proofs.lemmas.List.Elements.{All-head, All-tail, All-filter}
use Rattle.pipes_tuple.specs.declared.value.Value.{Value}
use Rattle.pipes_tuple.specs.declared.value.Kind.{Kind}
use Rattle.pipes_tuple.specs.Kinds.{Fits}
use Rattle.pipes_tuple.specs.Equal.{tuple_eq}
use Rattle.pipes_tuple.specs.Bag.{count, SameBag}
use Rattle.pipes_tuple.proofs.Equality.{tuple_eq-Decides}
use Rattle.pipes_tuple.proofs.Perm.{Perm, then, Perm-flat_map, Perm-each, Perm-split}
use Rattle.pipes_tuple.proofs.Bags.{SameBag-Perm, count-cons}
use Rattle.pipes_expr.specs.declared.expr.Expr.{Expr}
use Rattle.pipes_expr.specs.ExprValue.{Row}
use Rattle.pipes_relation.specs.declared.lists.Pair.{Pair}
use Rattle.pipes_plan.specs.declared.plan.Plan.{Plan}
use Rattle.pipes_plan.specs.declared.plan.Plan.TheVariants.{Join, Distinct}
use Rattle.pipes_plan.specs.Algebra.{alg}
use Rattle.pipes_relation.specs.Relations.{distinct, meets, joined}
use Rattle.pipes_plan.specs.PlanKinds.{plan_kinds, IsTyped}
use Rattle.pipes_relation.proofs.DistinctRows.{others}
use Rattle.pipes_relation.proofs.Keys.{All-distinct}
use Rattle.pipes_plan.proofs.PlanEquations.{alg-Join, alg-Distinct}
use Rattle.pipes_plan.proofs.AnswerFits.{answer_fits}
use Rattle.pipes_rewrite.specs.SameMeaning.{SameMeaning, Alike}
use Rattle.pipes_rule_laws.proofs.JoinedRows.{joined_by, joined-by}
use Rattle.pipes_rule_laws.proofs.JoinSound.{fits_length, join_same_kinds}
use Rattle.pipes_rule_laws.proofs.OnceEach.{IsOfRows, made-distinct, once_at_most}
use Rattle.pipes_rule_laws.proofs.RowCounts.{any_once, count-once, count-append}
use Rattle.pipes_rule_laws.proofs.Same.{same_answers, both_equal, distinct_keeps, distinct_typed}
use Rattle.pipes_rule_laws.proofs.Same.{UnderJoin, join_under}

-- ---- sums over distinct rows of which at most one counts

abbrev total : (Row → ℕ) → List Row → ℕ
total h [] = 0
total h (x ∷ xs) = h x + total h xs

module _ (h : Row → ℕ) (P : Row → Type 0) (small : (x : Row) → h x ≤ 1)
    (apart : (x y : Row) → P x → P y → 0 < h x → 0 < h y → x ≡ y) where
  nothing_step : (x z : Row) (zs : List Row) (b c : Bool) → b ≡ tuple_eq z x → c ≡ nat_lt 0 (h z)
      → P x → P z → 0 < h x → total h (others x zs) ≡ 0
      → total h (cond (not b) (z ∷ others x zs) (others x zs)) ≡ 0
  nothing_step x z zs true c e g p q l k = k
  nothing_step x z zs false true e g p q l k =
      let some : 0 < h z = grind (arith, nat_tests) in
      let w : false ≡ true = e ∙ (tuple_eq-Decides z x).1 (apart z x q p some l) in cc
  nothing_step x z zs false false e g p q l k =
      let none : h z ≡ 0 = grind (arith, nat_tests) in
      omega (arith, none, k)

  nothing_else : (x : Row) (zs : List Row) → P x → All P zs → 0 < h x → total h (others x zs) ≡ 0
  nothing_else x [] p a l = refl
  nothing_else x (z ∷ zs) p a l = nothing_step x z zs (tuple_eq z x) (nat_lt 0 (h z)) refl refl p
      (All-head P z zs a) l (nothing_else x zs p (All-tail P z zs a) l)

  less_step : (x z : Row) (zs : List Row) (b : Bool) → total h (others x zs) ≤ total h zs
      → total h (cond (not b) (z ∷ others x zs) (others x zs)) ≤ h z + total h zs
  less_step x z zs true k = omega (arith, k)
  less_step x z zs false k = omega (arith, k)

  less_of_others : (x : Row) (zs : List Row) → total h (others x zs) ≤ total h zs
  less_of_others x [] = omega arith
  less_of_others x (z ∷ zs) = less_step x z zs (tuple_eq z x) (less_of_others x zs)

  one_step : (x : Row) (xs : List Row) (b : Bool) → b ≡ nat_lt 0 (h x) → P x
      → All P (distinct xs) → total h (distinct xs) ≤ 1
      → h x + total h (others x (distinct xs)) ≤ 1
  one_step x xs true e p a k =
      let some : 0 < h x = grind (arith, nat_tests) in
      omega (arith, small x, nothing_else x (distinct xs) p a some)
  one_step x xs false e p a k =
      let none : h x ≡ 0 = grind (arith, nat_tests) in
      omega (arith, none, k, less_of_others x (distinct xs))

  one_in_all : (xs : List Row) → All P xs → total h (distinct xs) ≤ 1
  one_in_all [] a = omega arith
  one_in_all (x ∷ xs) a = one_step x xs (nat_lt 0 (h x)) refl (All-head P x xs a)
      (All-distinct P xs (All-tail P x xs a)) (one_in_all xs (All-tail P x xs a))

count-flat_map : (t : Row) (g : Row → List Row) (xs : List Row)
    → count t (flat_map g xs) ≡ total (λ x. count t (g x)) xs
count-flat_map t g [] = refl
count-flat_map t g (x ∷ xs) = count-append t (g x) (flat_map g xs)
    ∙ ap (λ n. count t (g x) + n) (count-flat_map t g xs)

-- ---- the parts of a concatenation

take_left : (l r : Row) → take (length l) (l ++ r) ≡ l
take_left [] r = refl
take_left (v ∷ l) r = ap (λ (row : Row). v ∷ row) (take_left l r)

same_rest : (l r s : Row) → l ++ r ≡ l ++ s → r ≡ s
same_rest [] r s e = e
same_rest (v ∷ l) r s e = let w : l ++ r ≡ l ++ s = cc in same_rest l r s w

-- a concatenation, where the test holds, is at most once the row t
one_small : (t row : Row) (b : Bool) → count t (cond b (row ∷ []) []) ≤ 1
one_small t row true = go (tuple_eq row t) refl where
  go : (c : Bool) → c ≡ tuple_eq row t → count t (row ∷ []) ≤ 1
  go true e = let w : ◌≡◌ {A = ℕ} (cond (tuple_eq row t) 1 0) 1 = ap (λ z. cond z 1 0) (sym e) in
      omega (arith, w, count-cons t row [])
  go false e = let w : ◌≡◌ {A = ℕ} (cond (tuple_eq row t) 1 0) 0 = ap (λ z. cond z 1 0) (sym e) in
      omega (arith, w, count-cons t row [])
one_small t row false = omega arith

one_is : (t row : Row) (b : Bool) → 0 < count t (cond b (row ∷ []) []) → row ≡ t
one_is t row true h = go (tuple_eq row t) refl where
  go : (c : Bool) → c ≡ tuple_eq row t → row ≡ t
  go true e = (tuple_eq-Decides row t).0 (sym e)
  go false e = let w : ◌≡◌ {A = ℕ} (cond (tuple_eq row t) 1 0) 0 = ap (λ z. cond z 1 0) (sym e) in
      absurd (omega (arith, w, h, count-cons t row []))
one_is t row false h = absurd (omega (arith, h))

module _ (test : Row → Row → Bool) (t : Row) where
  abbrev given : Row → Row → List Row
  given l r = cond (test l r) ((l ++ r) ∷ []) []

  -- a left row gives t at most once
  left_small : (ys : List Row) (l : Row) → count t (flat_map (given l) (distinct ys)) ≤ 1
  left_small ys l =
      let few = one_in_all (λ r. count t (given l r)) (λ r. Unit {0})
      (λ r. one_small t (l ++ r) (test l r))
      (λ r s p q h g. same_rest l r s (one_is t (l ++ r) (test l r) h
      ∙ sym (one_is t (l ++ s) (test l s) g)))
      ys (λ i d h. tt) in
      omega (arith, few, count-flat_map t (given l) (distinct ys))

  -- by the first right row, or by another one
  starts_by : (l r : Row) (rs : List Row) (c : Bool) → c ≡ nat_lt 0 (count t (given l r))
      → (0 < count t (flat_map (given l) rs) → take (length l) t ≡ l)
      → 0 < count t (flat_map (given l) (r ∷ rs)) → take (length l) t ≡ l
  starts_by l r rs true e others h =
      let some : 0 < count t (given l r) = grind (arith, nat_tests) in
      ap (take (length l)) (sym (one_is t (l ++ r) (test l r) some)) ∙ take_left l r
  starts_by l r rs false e others h =
      let none : count t (given l r) ≡ 0 = grind (arith, nat_tests) in
      others (omega (arith, h, none, count-append t (given l r) (flat_map (given l) rs)))

  starts : (l : Row) (rs : List Row) → 0 < count t (flat_map (given l) rs) → take (length l) t ≡ l
  starts l [] h = absurd (omega (arith, h))
  starts l (r ∷ rs) h =
      starts_by l r rs (nat_lt 0 (count t (given l r))) refl (λ g. starts l rs g) h

  -- the joined rows of distinct rows are distinct
  joins_small : (n : ℕ) (xs ys : List Row) → All (λ l. length l ≡ n) xs
      → count t (joined_by test (distinct xs) (distinct ys)) ≤ 1
  joins_small n xs ys a =
      let few = one_in_all (λ l. count t (flat_map (given l) (distinct ys))) (λ l. length l ≡ n)
      (left_small ys)
      (λ l k e f h g. sym (starts l (distinct ys) h) ∙ ap (λ m. take m t) (e ∙ sym f)
      ∙ starts k (distinct ys) g) xs a in
      omega (arith, few, count-flat_map t (λ l. flat_map (given l) (distinct ys)) (distinct xs))

  once_copies : (m n : ℕ) → any_once (m + (m + n)) ≡ any_once (m + n)
  once_copies m n = grind (arith, nat_tests)

  left_of_rows : (ys : List Row) → IsOfRows (λ xs. any_once (count t (joined_by test xs ys)))
  left_of_rows ys = record {
    order = λ p. ap any_once ((SameBag-Perm (Perm-flat_map (λ l. flat_map (given l) ys) p)).counts
        t);
    copies = λ x xs. ap any_once (count-append t (flat_map (given x) ys)
        (flat_map (given x) ys ++ joined_by test xs ys)
        ∙ ap (λ n. count t (flat_map (given x) ys) + n) (count-append t (flat_map (given x) ys)
        (joined_by test xs ys)))
        ∙ once_copies (count t (flat_map (given x) ys)) (count t (joined_by test xs ys))
        ∙ ap any_once (sym (count-append t (flat_map (given x) ys) (joined_by test xs ys)));
  }

  -- one right row more
  right_more : (y : Row) (xs ys : List Row) → count t (joined_by test xs (y ∷ ys))
      ≡ count t (flat_map (λ l. given l y) xs) + count t (joined_by test xs ys)
  right_more y xs ys =
      (SameBag-Perm (Perm-split (λ l. given l y) (λ l. flat_map (given l) ys) xs)).counts t
      ∙ count-append t (flat_map (λ l. given l y) xs) (joined_by test xs ys)

  right_of_rows : (xs : List Row) → IsOfRows (λ ys. any_once (count t (joined_by test xs ys)))
  right_of_rows xs = record {
    order = λ p. ap any_once ((SameBag-Perm (Perm-each _ _ (λ l. Perm-flat_map (given l) p)
        xs)).counts
        t);
    copies = λ y ys. ap any_once (right_more y xs (y ∷ ys)
        ∙ ap (λ n. count t (flat_map (λ l. given l y) xs) + n) (right_more y xs ys))
        ∙ once_copies (count t (flat_map (λ l. given l y) xs)) (count t (joined_by test xs ys))
        ∙ ap any_once (sym (right_more y xs ys));
  }

  pub count-joined-once : (n : ℕ) (xs ys : List Row) → All (λ l. length l ≡ n) xs
      → any_once (count t (joined_by test xs ys))
      ≡ count t (joined_by test (distinct xs) (distinct ys))
  count-joined-once n xs ys a =
      sym (made-distinct (λ zs. any_once (count t (joined_by test zs ys))) (left_of_rows ys) xs)
      ∙ sym (made-distinct (λ zs. any_once (count t (joined_by test (distinct xs) zs)))
      (right_of_rows (distinct xs)) ys)
      ∙ once_at_most (count t (joined_by test (distinct xs) (distinct ys))) (joins_small n xs ys a)

lengths : (s : List Kind) (xs : List Row) → All (λ (l : Row). Fits l s) xs
    → All (λ (l : Row). length l ≡ length s) xs
lengths s xs a = λ i d h. fits_length (get_or xs i d) s (a i d h)

module _ (ss : List (List Kind)) where
  pub distinct_join_alike : (k : List Pair) (c : Expr) (a b : Plan)
      → Alike ss (Distinct (Join k c a b)) (Join k c (Distinct a) (Distinct b))
  distinct_join_alike k c a b t u =
      let j = join_under ss k c a b (distinct_typed ss (Join k c a b) t) in
      record {
        kinds = distinct_keeps ss (Join k c a b)
            ∙ join_same_kinds ss k k c c a (Distinct a) b (Distinct b)
            (distinct_typed ss (Join k c a b) t) u (sym (distinct_keeps ss a))
            (sym (distinct_keeps ss b));
        answers = λ bags fit. same_answers
            (alg-Distinct (Join k c a b) bags ∙ ap distinct (alg-Join k c a b bags
            ∙ joined-by k c (alg a bags) (alg b bags)))
            (alg-Join k c (Distinct a) (Distinct b) bags
            ∙ both_equal (joined k c) (alg-Distinct a bags) (alg-Distinct b bags)
            ∙ joined-by k c (distinct (alg a bags)) (distinct (alg b bags)))
            (record {
              counts = λ r. count-once r (joined_by (meets k c) (alg a bags) (alg b bags))
                  ∙ count-joined-once (meets k c) r (length j.left_kinds) (alg a bags) (alg b bags)
                  (lengths j.left_kinds (alg a bags)
                  (answer_fits ss bags fit a j.left_kinds j.left));
            });
      }
