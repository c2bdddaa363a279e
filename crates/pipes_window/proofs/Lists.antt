-- The last rows of a list, and the row at a place.
use Rattle.std.proofs.Common.{◌≡◌, ℕ, zero, suc, ◌-◌, ◌≤◌, ◌<◌, List, [], ◌∷◌, ◌++◌, length, Bool}
use Rattle.std.proofs.Common.{true, false, cond, nat_lt, Some, None, refl, sym, ap, ◌∙◌, arith}
use Rattle.std.proofs.Common.{length-append, slice_get}
use Rattle.std.proofs.lemmas.Bool.Decides.{nat_tests}
use Rattle.pipes_window.specs.Items.{last_n}

module _ {X : Type 0} where
  pub slice_get-past : (xs : List X) (i : ℕ) → length xs ≤ i → slice_get xs i ≡ None
  slice_get-past [] i h = refl
  slice_get-past (x ∷ xs) zero h = absurd (omega arith)
  slice_get-past (x ∷ xs) (suc i) h = slice_get-past xs i (omega arith)

  pub slice_get-some : (xs : List X) (i : ℕ) → i < length xs → (x : X) × (slice_get xs i ≡ Some x)
  slice_get-some [] i h = absurd (omega arith)
  slice_get-some (x ∷ xs) zero h = (x, refl)
  slice_get-some (x ∷ xs) (suc i) h = slice_get-some xs i (omega arith)

  pub slice_get-append : (xs ys : List X) (i : ℕ) → i < length xs
      → slice_get (xs ++ ys) i ≡ slice_get xs i
  slice_get-append [] ys i h = absurd (omega arith)
  slice_get-append (x ∷ xs) ys zero h = refl
  slice_get-append (x ∷ xs) ys (suc i) h = slice_get-append xs ys i (omega arith)

  -- the last n of a list with one more at its start
  pub last_n-few : (n : ℕ) (xs : List X) → length xs ≤ n → last_n n xs ≡ xs
  last_n-few n xs h =
      let nothing : length xs - n ≡ 0 = omega arith in
      rw nothing refl

  pub last_n-many : (n : ℕ) (x : X) (xs : List X) → n ≤ length xs
      → last_n n (x ∷ xs) ≡ last_n n xs
  last_n-many n x xs h =
      let one_more : suc (length xs) - n ≡ suc (length xs - n) = omega arith in
      rw one_more refl

  pub last_n-cons : (n : ℕ) (x : X) (xs : List X)
      → last_n n (x ∷ xs) ≡ cond (nat_lt (length xs) n) (x ∷ last_n n xs) (last_n n xs)
  last_n-cons n x xs = by (nat_lt (length xs) n) refl
    where
      by : (b : Bool) → nat_lt (length xs) n ≡ b
          → last_n n (x ∷ xs) ≡ cond b (x ∷ last_n n xs) (last_n n xs)
      by true e =
          let few : length xs < n = grind (arith, nat_tests, e) in
          last_n-few n (x ∷ xs) (omega arith)
          ∙ ap (λ (l : List X). x ∷ l) (sym (last_n-few n xs (omega arith)))
      by false e =
          let many : n ≤ length xs = grind (arith, nat_tests, e) in
          last_n-many n x xs many

  -- only the last n of the prefix count
  pub last_n-append : (n : ℕ) (xs ys : List X)
      → last_n n (xs ++ ys) ≡ last_n n (last_n n xs ++ ys)
  last_n-append n [] ys = ap (λ (l : List X). last_n n (l ++ ys))
      (sym (last_n-few n [] (omega arith)))
  last_n-append n (x ∷ xs) ys = by (nat_lt (length xs) n) refl (last_n-append n xs ys)
    where
      by : (b : Bool) → nat_lt (length xs) n ≡ b
          → last_n n (xs ++ ys) ≡ last_n n (last_n n xs ++ ys)
          → last_n n (x ∷ (xs ++ ys)) ≡ last_n n (last_n n (x ∷ xs) ++ ys)
      by true e more =
          let few : length xs < n = grind (arith, nat_tests, e) in
          ap (λ (l : List X). last_n n (l ++ ys)) (sym (last_n-few n (x ∷ xs) (omega arith)))
      by false e more =
          let many : n ≤ length xs = grind (arith, nat_tests, e) in
          last_n-many n x (xs ++ ys) (omega (arith, length-append xs ys)) ∙ more
          ∙ ap (λ (l : List X). last_n n (l ++ ys)) (sym (last_n-many n x xs many))
