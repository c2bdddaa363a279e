-- Rows less others, as rows are added at the end.
use Rattle.std.proofs.Common.{◌≡◌, ℕ, ◌+◌, ◌-◌, ◌<◌, ◌≤◌, ◌^◌, Bool, true, false, ◌||◌, cond, List}
use Rattle.std.proofs.Common.{[], ◌∷◌, ◌++◌, length, Some, None, refl, sym, ap, ◌∙◌, arith}
use Rattle.std.specs.Prelude.{unwrap_or}
use Rattle.std.specs.Map.{lookup}
use Rattle.indexmap.specs.IndexMap.{IndexMap, get, Updates, IsEmpty}
use Rattle.pipes_tuple.specs.Bag.{count}
use Rattle.pipes_tuple.specs.Equal.{tuple_eq}
use Rattle.pipes_tuple.proofs.Bags.{count-cons}
use Rattle.pipes_tuple.proofs.Equality.{tuple_eq-Decides}
use Rattle.pipes_expr.specs.ExprValue.{Row}
use Rattle.pipes_relation.specs.Relations.{without, minus}
use Rattle.pipes_relation.specs.Counted.{number_in, HasCounts}
use Rattle.pipes_relation.proofs.DistinctRows.{has, eq_back}

-- how many of the rows are y, row by row
abbrev times : Row → List Row → ℕ
times y [] = 0
times y (z ∷ zs) = cond {A = ℕ} (tuple_eq z y) 1 0 + times y zs

times_is : (y : Row) (rows : List Row) → times y rows ≡ count y rows
times_is y [] = refl
times_is y (z ∷ zs) =
    ap (λ n. cond {A = ℕ} (tuple_eq z y) 1 0 + n) (times_is y zs) ∙ sym (count-cons y z zs)

less_is : (y : Row) (rows less : List Row) → count y rows - count y less ≡ times y rows - times y
    less
less_is y rows less =
    ap (λ n. n - count y less) (sym (times_is y rows)) ∙ ap (λ n. times y rows - n)
    (sym (times_is y less))

same_row : (x y : Row) → true ≡ tuple_eq x y → x ≡ y
same_row x y e = (tuple_eq-Decides x y).0 (sym e)

-- how often, with a row more
times-push : (y : Row) (xs : List Row) (x : Row) → times y (xs ++ x ∷ []) ≡ times y xs + cond
    (tuple_eq x y) 1 0
times-push y [] x = let n = cond {A = ℕ} (tuple_eq x y) 1 0 in let e : n + 0 ≡ 0 + n =
    omega arith in e
times-push y (z ∷ xs) x = let h = times-push y xs x in let n = cond {A = ℕ} (tuple_eq z y) 1 0 in
    let m = cond {A = ℕ} (tuple_eq x y) 1 0 in
    let e : n + times y (xs ++ x ∷ []) ≡ (n + times y xs) + m = omega (arith, h) in e

one_at_most : (b : Bool) → cond {A = ℕ} b 1 0 ≤ 1
one_at_most true = omega arith
one_at_most false = omega arith

times-le : (y : Row) (xs : List Row) → times y xs ≤ length xs
times-le y [] = omega arith
times-le y (z ∷ xs) = let h = times-le y xs in let k = one_at_most (tuple_eq z y) in omega
    (arith, h, k)

absent_step : (y z : Row) (xs : List Row) (b : Bool) → (b || has y xs) ≡ false
    → (has y xs ≡ false → times y xs ≡ 0) → cond {A = ℕ} b 1 0 + times y xs ≡ 0
absent_step y z xs true e h = cc
absent_step y z xs false e h = let i = h e in omega (arith, i)

times-absent : (y : Row) (xs : List Row) → has y xs ≡ false → times y xs ≡ 0
times-absent y [] e = refl
times-absent y (z ∷ xs) e = absent_step y z xs (tuple_eq z y) e (times-absent y xs)

without-absent_step : (y z : Row) (xs : List Row) (b : Bool) → (b || has y xs) ≡ false
    → (has y xs ≡ false → without y xs ≡ xs) → cond b xs (z ∷ without y xs) ≡ z ∷ xs
without-absent_step y z xs true e h = cc
without-absent_step y z xs false e h = ap (λ (zs : List Row). z ∷ zs) (h e)

without-absent : (y : Row) (xs : List Row) → has y xs ≡ false → without y xs ≡ xs
without-absent y [] e = refl
without-absent y (z ∷ xs) e = without-absent_step y z xs (tuple_eq z y) e (without-absent y xs)

without_step : (y x z : Row) (xs : List Row) (b h e : Bool) → without y (xs ++ x ∷ []) ≡ cond h
    (without y xs ++ x ∷ []) (cond e xs (xs ++ x ∷ []))
    → cond b (xs ++ x ∷ []) (z ∷ without y (xs ++ x ∷ [])) ≡ cond (b || h)
    (cond b xs (z ∷ without y xs) ++ x ∷ []) (cond e (z ∷ xs) (z ∷ (xs ++ x ∷ [])))
without_step y x z xs true h e p = refl
without_step y x z xs false true e p = ap (λ (zs : List Row). z ∷ zs) p
without_step y x z xs false false true p = ap (λ (zs : List Row). z ∷ zs) p
without_step y x z xs false false false p = ap (λ (zs : List Row). z ∷ zs) p

without-push : (y x : Row) (xs : List Row) → without y (xs ++ x ∷ []) ≡ cond (has y xs)
    (without y xs ++ x ∷ []) (cond (tuple_eq x y) xs (xs ++ x ∷ []))
without-push y x [] = refl
without-push y x (z ∷ xs) = without_step y x z xs (tuple_eq z y) (has y xs) (tuple_eq x y)
    (without-push y x xs)

times_step : (x y z : Row) (xs : List Row) (b : Bool) → b ≡ tuple_eq z y → (b || has y xs) ≡ true
    → (has y xs ≡ true → times x xs ≡ times x (without y xs) + cond (tuple_eq y x) 1 0)
    → cond (tuple_eq z x) 1 0 + times x xs ≡ times x (cond b xs (z ∷ without y xs)) + cond
    (tuple_eq y x) 1 0
times_step x y z xs true e t h =
    let n = cond {A = ℕ} (tuple_eq z x) 1 0 in let m = cond {A = ℕ} (tuple_eq y x) 1 0 in
    let same : n ≡ m = ap (λ (w : Row). cond {A = ℕ} (tuple_eq w x) 1 0) (same_row z y e) in
    let g : n + times x xs ≡ times x xs + m = omega (arith, same) in g
times_step x y z xs false e t h =
    let n = cond {A = ℕ} (tuple_eq z x) 1 0 in let m = cond {A = ℕ} (tuple_eq y x) 1 0 in
    let i : times x xs ≡ times x (without y xs) + m = h t in
    let g : n + times x xs ≡ (n + times x (without y xs)) + m = omega (arith, i) in g

times-without : (x y : Row) (xs : List Row) → has y xs ≡ true
    → times x xs ≡ times x (without y xs) + cond (tuple_eq y x) 1 0
times-without x y [] e = cc
times-without x y (z ∷ xs) e = times_step x y z xs (tuple_eq z y) refl e (times-without x y xs)

-- a row more on the left, of which the right has no more than the left
keep_step : (x y : Row) (ys xs : List Row) (h e : Bool) → h ≡ has y xs → e ≡ tuple_eq x y
    → times x (y ∷ ys) ≤ times x xs
    → ((zs : List Row) → times x ys ≤ times x zs → minus (zs ++ x ∷ []) ys ≡ minus zs ys ++ x ∷ [])
    → minus (cond h (without y xs ++ x ∷ []) (cond e xs (xs ++ x ∷ []))) ys ≡ minus (without y xs)
    ys ++ x ∷ []
keep_step x y ys xs true e p q l rest =
    let m = cond {A = ℕ} (tuple_eq y x) 1 0 in
    let t : times x xs ≡ times x (without y xs) + m = times-without x y xs (sym p) in
    let k : m + times x ys ≤ times x xs = l in
    let f : times x ys ≤ times x (without y xs) = omega (arith, t, k) in
    rest (without y xs) f
keep_step x y ys xs false true p q l rest =
    let m = cond {A = ℕ} (tuple_eq y x) 1 0 in
    let one : m ≡ 1 = ap (λ b. cond {A = ℕ} b 1 0) (eq_back x y true q) in
    let none : times x xs ≡ 0 = ap (λ (w : Row). times w xs) (same_row x y q)
    ∙ times-absent y xs (sym p) in
    let k : m + times x ys ≤ times x xs = l in
    absurd (omega (arith, one, none, k))
keep_step x y ys xs false false p q l rest =
    let m = cond {A = ℕ} (tuple_eq y x) 1 0 in
    let k : m + times x ys ≤ times x xs = l in
    let f : times x ys ≤ times x xs = omega (arith, k) in
    rest xs f ∙ ap (λ (zs : List Row). minus zs ys ++ x ∷ []) (sym (without-absent y xs (sym p)))

pub minus_keep : (x : Row) (ys xs : List Row) → times x ys ≤ times x xs
    → minus (xs ++ x ∷ []) ys ≡ minus xs ys ++ x ∷ []
minus_keep x [] xs l = refl
minus_keep x (y ∷ ys) xs l =
    ap (λ (zs : List Row). minus zs ys) (without-push y x xs)
    ∙ keep_step x y ys xs (has y xs) (tuple_eq x y) refl refl l (minus_keep x ys)

-- and of which it has more
drop_step : (x y : Row) (ys xs : List Row) (h e : Bool) → h ≡ has y xs → e ≡ tuple_eq x y
    → times x xs < times x (y ∷ ys)
    → ((zs : List Row) → times x zs < times x ys → minus (zs ++ x ∷ []) ys ≡ minus zs ys)
    → minus (cond h (without y xs ++ x ∷ []) (cond e xs (xs ++ x ∷ []))) ys ≡ minus (without y xs)
    ys
drop_step x y ys xs true e p q l rest =
    let m = cond {A = ℕ} (tuple_eq y x) 1 0 in
    let t : times x xs ≡ times x (without y xs) + m = times-without x y xs (sym p) in
    let k : times x xs < m + times x ys = l in
    let f : times x (without y xs) < times x ys = omega (arith, t, k) in
    rest (without y xs) f
drop_step x y ys xs false true p q l rest = ap (λ (zs : List Row). minus zs ys)
    (sym (without-absent y xs (sym p)))
drop_step x y ys xs false false p q l rest =
    let m = cond {A = ℕ} (tuple_eq y x) 1 0 in
    let none : m ≡ 0 = ap (λ b. cond {A = ℕ} b 1 0) (eq_back x y false q) in
    let k : times x xs < m + times x ys = l in
    let f : times x xs < times x ys = omega (arith, none, k) in
    rest xs f ∙ ap (λ (zs : List Row). minus zs ys) (sym (without-absent y xs (sym p)))

pub minus_drop : (x : Row) (ys xs : List Row) → times x xs < times x ys
    → minus (xs ++ x ∷ []) ys ≡ minus xs ys
minus_drop x [] xs l = absurd (omega arith)
minus_drop x (y ∷ ys) xs l =
    ap (λ (zs : List Row). minus zs ys) (without-push y x xs)
    ∙ drop_step x y ys xs (has y xs) (tuple_eq x y) refl refl l (minus_drop x ys)

module _ {S : Type 0} (m : IndexMap Row ℕ S) (rows less : List Row) (k : Row) (v : ℕ)
    (h : HasCounts m rows less) (ve : v ≡ number_in m k) where
  counted_step : (n : IndexMap Row ℕ S) (w : ℕ) (y : Row) (b : Bool) (r s : ℕ) → b ≡ tuple_eq k y
      → number_in n y ≡ unwrap_or (cond b (Some w) (get tuple_eq m y)) 0
      → (b ≡ true → k ≡ y → w ≡ r - s) → (b ≡ false → times y rows - times y less ≡ r - s)
      → number_in n y ≡ r - s
  counted_step n w y true r s e g f o = g ∙ f refl (same_row k y e)
  counted_step n w y false r s e g f o = g ∙ (h.at y ∙ less_is y rows less) ∙ o refl

  here : (y : Row) → k ≡ y → v ≡ times y rows - times y less
  here y e = ve ∙ ap (number_in m) e ∙ (h.at y ∙ less_is y rows less)

  pub counts_less : (n : IndexMap Row ℕ S) → 0 < v → Updates tuple_eq m n k (Some (v - 1))
      → HasCounts n rows (less ++ k ∷ [])
  counts_less n p u = record {
    at = λ y.
        counted_step n (v - 1) y (tuple_eq k y) (times y rows) (times y (less ++ k ∷ []))
        refl (ap (λ o. unwrap_or o 0) (u.0 y))
        (λ b e. let t = times-push y less k ∙ ap (λ c. times y less + cond {A = ℕ} c 1 0) b in
        let q = here y e in omega (arith, t, q, p))
        (λ b. let t = times-push y less k ∙ ap (λ c. times y less + cond {A = ℕ} c 1 0) b in omega
        (arith, t))
        ∙ sym (less_is y rows (less ++ k ∷ []));
  }

  pub dropped : 0 < v → minus (less ++ k ∷ []) rows ≡ minus less rows
  dropped p = let q = here k refl in let f : times k less < times k rows =
      omega (arith, p, q) in minus_drop k rows less f

  pub kept : v ≡ 0 → minus (less ++ k ∷ []) rows ≡ minus less rows ++ k ∷ []
  kept p = let q = here k refl in let f : times k rows ≤ times k less =
      omega (arith, p, q) in minus_keep k rows less f

  none_left : (y : Row) (b : Bool) → b ≡ tuple_eq k y → v ≡ 0
      → number_in m y ≡ times y rows - times y (less ++ k ∷ [])
  none_left y true e z = let t = times-push y less k ∙ ap (λ c. times y less + cond {A = ℕ} c 1 0)
      (sym e) in let q = here y (same_row k y e) in let a = (h.at y ∙ less_is y rows less) in omega
      (arith, t, q, z, a)
  none_left y false e z = let t = times-push y less k ∙ ap (λ c. times y less + cond {A = ℕ} c 1 0)
      (sym e) in let a = (h.at y ∙ less_is y rows less) in omega (arith, t, a)

  pub counts_none : v ≡ 0 → HasCounts m rows (less ++ k ∷ [])
  counts_none z = record {
    at = λ y. none_left y (tuple_eq k y) refl z ∙ sym (less_is y rows (less ++ k ∷ []));
  }

module _ {S : Type 0} (m : IndexMap Row ℕ S) (rows : List Row) (k : Row) (v : ℕ)
    (h : HasCounts m rows []) (ve : v ≡ number_in m k) where
  pub counts_more : (n : IndexMap Row ℕ S) → Updates tuple_eq m n k (Some (v + 1))
      → HasCounts n (rows ++ k ∷ []) []
  counts_more n u = record {
    at = λ y.
        counted_step m rows [] k v h ve n (v + 1) y (tuple_eq k y)
        (times y (rows ++ k ∷ [])) 0 refl (ap (λ o. unwrap_or o 0) (u.0 y))
        (λ b e. let t = times-push y rows k ∙ ap (λ c. times y rows + cond {A = ℕ} c 1 0) b in
        let q = here m rows [] k v h ve y e in omega (arith, t, q))
        (λ b. let t = times-push y rows k ∙ ap (λ c. times y rows + cond {A = ℕ} c 1 0) b in omega
        (arith, t))
        ∙ sym (less_is y (rows ++ k ∷ []) []);
  }

  pub at_most : v ≤ length rows
  at_most = let q = ve ∙ h.at k ∙ less_is k rows [] in let l = times-le k rows in omega
      (arith, q, l)

pub minus-none : (ys : List Row) → minus [] ys ≡ []
minus-none [] = refl
minus-none (y ∷ ys) = minus-none ys

pub counts_empty : {S : Type 0} (m : IndexMap Row ℕ S) → IsEmpty m → HasCounts m [] []
counts_empty m e = record {
  at = λ y. ap (λ (es : List (Row × ℕ)). unwrap_or
      (lookup (tuple_eq y) es) 0) e;
}
