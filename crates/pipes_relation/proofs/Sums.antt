-- Exact sums of columns.
use Rattle.std.proofs.Common.{◌≡◌, ℕ, ℤ, pos, negsuc, zero, suc, ◌+◌, ◌*◌, ◌<◌, ◌≤◌, ◌+ℤ◌, List, []}
use Rattle.std.proofs.Common.{◌∷◌, ◌++◌, length, take, get_or, refl, sym, ap, ◌∙◌, subst, arith}
use Rattle.std.proofs.Common.{FitsSigned, Bool, true, false, cond, ltb, ◌-◌, ◌^◌, ◌==◌, to_z, of_z}
use Rattle.std.proofs.lemmas.Int.{ints, to_z-of_z}
use Rattle.std.proofs.lemmas.Bool.{ltb-true, ltb-false}
use Rattle.std.specs.Int.{w64, w128, int_div_euclid}
use Rattle.std.proofs.Math.IntN.{sub_ℕ}
use Rattle.std.proofs.Math.Nat.{div-le_of_le-mul, div-lt_iff_lt-mul}
use Rattle.std.proofs.lemmas.List.{take_more}
use Rattle.pipes_expr.specs.ExprValue.{Row, column}
use Rattle.pipes_relation.specs.Aggregate.{number, exact_sum, Between, FitsRows}

-- the sum of a column over rows, of which there are n
pub record IsSumOf (c : ℕ) (rows : List Row) (n : ℕ) (sum : ℤ) : Type 0 where
  pub is : sum ≡ exact_sum c rows
  pub fits : FitsRows n sum

between_cond : (low high p q : ℕ) (b : Bool) → (b ≡ true → q < low) → (b ≡ false → p ≤ high)
    → Between low high (cond b (negsuc q) (pos p))
between_cond low high p q true g h = g refl
between_cond low high p q false g h = h refl

between_sub : (low high m k : ℕ) → m ≤ high + k → k ≤ low + m → Between low high (sub_ℕ m k)
between_sub low high m k h g =
    between_cond low high (m - k) (k - suc m) (ltb m k) (λ e. let w = ltb-true m k e in omega arith)
    (λ e. let w = ltb-false m k e in omega arith)

signed_between : (x : ℤ) → FitsSigned w64 x → Between 9223372036854775808 9223372036854775807 x
signed_between (pos a) f = omega (arith, f)
signed_between (negsuc a) f = omega (arith, f)

between_fits_64 : (z : ℤ) → Between 9223372036854775808 9223372036854775807 z → FitsSigned w64 z
between_fits_64 (pos a) b = omega arith
between_fits_64 (negsuc a) b = omega arith

-- one integer more
fits_more : (n : ℕ) (s x : ℤ) → FitsRows n s → Between 9223372036854775808 9223372036854775807 x
    → FitsRows (n + 1) (s +ℤ x)
fits_more n (pos a) (pos b) h f = omega arith
fits_more n (pos a) (negsuc b) h f = between_sub _ _ a (suc b) (omega arith) (omega arith)
fits_more n (negsuc a) (pos b) h f = between_sub _ _ b (suc a) (omega arith) (omega arith)
fits_more n (negsuc a) (negsuc b) h f = omega arith

exact_sum-push : (c : ℕ) (rows : List Row) (row : Row) → exact_sum c (rows ++ row ∷ []) ≡ exact_sum
    c rows +ℤ number (column row c)
exact_sum-push c [] row = omega (arith, ints)
exact_sum-push c (x ∷ rows) row = omega (arith, ints, exact_sum-push c rows row)

-- one row more
pub sum_more : (c : ℕ) (rows : List Row) (i : ℕ) (row : Row) (sum sum' x : ℤ) → i < length rows
    → row ≡ get_or rows i row → IsSumOf c (take i rows) i sum → x ≡ number (column row c)
    → FitsSigned w64 x → sum' ≡ sum +ℤ x → IsSumOf c (take (i + 1) rows) (i + 1) sum'
sum_more c rows i row sum sum' x h e s xe f se =
    let more : take (i + 1) rows ≡ take i rows ++ row ∷ [] = take_more rows i row h
    ∙ ap (λ (r : Row). take i rows ++ r ∷ []) (sym e) in
    record {
      is = se ∙ ap (λ z. sum +ℤ z) xe ∙ ap (λ z. z +ℤ number (column row c)) s.is
          ∙ sym (exact_sum-push c (take i rows) row) ∙ ap (exact_sum c) (sym more);
      fits = rw se (fits_more i sum x s.fits (signed_between x f));
    }

between_fits : (low high : ℕ) (z : ℤ) → low < 2 ^ 127 + 1 → high < 2 ^ 127 → Between low high z
    → FitsSigned w128 z
between_fits low high (pos a) h g b = omega arith
between_fits low high (negsuc a) h g b = omega arith

-- the sum of fewer than 2 ^ 64 integers of 64 bits and one more is no other in 128 bits
pub added_is : (n : ℕ) (s x y : ℤ) → n < 2 ^ 64 - 1 → FitsRows n s → FitsSigned w64 x
    → y ≡ to_z w64 (of_z w64 x) → to_z w128 (of_z w128 (s +ℤ to_z w128 (of_z w128 y))) ≡ s +ℤ x
added_is n s x y h b f e =
    let within = signed_between x f in
    let same : y ≡ x = e ∙ to_z-of_z w64 x f in
    let small : FitsSigned w128 x = between_fits 9223372036854775808 9223372036854775807 x
    (omega arith) (omega arith) within in
    let whole : FitsSigned w128 (s +ℤ x) = between_fits (9223372036854775808 * (n + 1))
    (9223372036854775807 * (n + 1)) (s +ℤ x) (omega arith) (omega arith)
    (fits_more n s x b within) in
    rw (same, to_z-of_z w128 x small) (to_z-of_z w128 (s +ℤ x) whole)

quotient_between : (n : ℕ) (sum : ℤ) → 0 < n → FitsRows n sum
    → Between 9223372036854775808 9223372036854775807 (int_div_euclid sum (pos n))
quotient_between n (pos a) h f = div-le_of_le-mul n {m = a} {n = 9223372036854775807} (omega arith)
quotient_between n (negsuc a) h f = (div-lt_iff_lt-mul {k = n} {x = a} {y = 9223372036854775808}
    h).1 f

-- the quotient of a sum and its number of rows is no other in 64 bits
pub average_is : (n : ℕ) (sum quotient exact : ℤ) → 0 < n → n < 2 ^ 64 → FitsRows n sum
    → sum ≡ exact → quotient ≡ int_div_euclid (to_z w128 (of_z w128 sum)) (to_z w128 n)
    → to_z w64 (of_z w64 (to_z w128 (of_z w128 quotient))) ≡ int_div_euclid exact (pos n)
average_is n sum quotient exact h g f e q =
    let whole : FitsSigned w128 sum = between_fits (9223372036854775808 * n)
    (9223372036854775807 * n) sum (omega arith) (omega arith) f in
    let rows : to_z w128 n ≡ pos n = omega (arith, ints) in
    let is : quotient ≡ int_div_euclid sum (pos n) = q ∙ ap (λ z. int_div_euclid z (to_z w128 n))
    (to_z-of_z w128 sum whole) ∙ ap (int_div_euclid sum) rows in
    let within = subst (Between 9223372036854775808 9223372036854775807) (sym is)
    (quotient_between n sum h f) in
    let small : FitsSigned w128 quotient = between_fits 9223372036854775808 9223372036854775807
    quotient (omega arith) (omega arith) within in
    let fits : FitsSigned w64 quotient = between_fits_64 quotient within in
    ap (λ z. to_z w64 (of_z w64 z)) (to_z-of_z w128 quotient small) ∙ to_z-of_z w64 quotient fits
    ∙ is ∙ ap (λ z. int_div_euclid z (pos n)) e

pub positive : (n : ℕ) → false ≡ (n == 0) → 0 < n
positive zero h = cc
positive (suc n) h = omega arith
