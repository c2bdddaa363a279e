-- Lists whose keys never fall, by their places.
use Rattle.std.proofs.Common.{ℕ, zero, suc, ◌≤◌, ◌<◌, List, [], ◌∷◌, length, get_or, arith}
use Rattle.std.specs.List.{All}
use Rattle.std.specs.List.Sorted.{IsNonDecreasingBy}
use Rattle.std.proofs.lemmas.List.Elements.{All-nil, All-cons}
use Rattle.pipes_time.specs.Rising.{RisesBy}

module _ {X : Type 0} (key : X → ℕ) where
  pub rises-lower : (low high : ℕ) (xs : List X) → low ≤ high → RisesBy key high xs
      → RisesBy key low xs
  rises-lower low high [] h up = tt
  rises-lower low high (x ∷ xs) h up = (let first = up.0 in omega arith, up.1)

  -- no key is below the number
  pub rises-above : (low : ℕ) (xs : List X) → RisesBy key low xs → All (λ x. low ≤ key x) xs
  rises-above low [] up = All-nil (λ x. low ≤ key x)
  rises-above low (x ∷ xs) up =
      All-cons (λ x. low ≤ key x) x xs up.0 (rises-above low xs
      (rises-lower low (key x) xs up.0 up.1))

  -- a key is at most any later one
  pub rises-sorted : (low : ℕ) (xs : List X) → RisesBy key low xs → IsNonDecreasingBy key xs
  rises-sorted low [] up = λ i j d h k. absurd (omega arith)
  rises-sorted low (x ∷ xs) up =
      let rest = rises-sorted (key x) xs up.1 in
      λ i j d h k. at rest i j d h k
    where
      at : IsNonDecreasingBy key xs → (i j : ℕ) (d : X) → i ≤ j → j < length (x ∷ xs)
          → key (get_or (x ∷ xs) i d) ≤ key (get_or (x ∷ xs) j d)
      at rest zero zero d h k = omega arith
      at rest zero (suc j) d h k = rises-above (key x) xs up.1 j d (omega arith)
      at rest (suc i) zero d h k = absurd (omega arith)
      at rest (suc i) (suc j) d h k = rest i j d (omega arith) (omega arith)
