-- Sums over the nodes of a box.
use Rattle.std.proofs.Common.{◌≡◌, ℕ, zero, suc, ◌+◌, ◌-◌, ◌^◌, ◌≤◌, ◌<◌, min, List, [], ◌∷◌, ◌++◌}
use Rattle.std.proofs.Common.{length, take, get_or, refl, sym, ◌∙◌, ap, arith}
use Rattle.std.specs.List.{sum_by}
use Rattle.std.proofs.lemmas.List.{take_more}
use Rattle.std.proofs.lemmas.List.Sums.{sum_by-cons, sum_by_push}

-- the sum over one item more
pub sum-more : {X : Type 0} (f : X → ℕ) (xs : List X) (i : ℕ) (x : X) → i < length xs
    → x ≡ get_or xs i x → sum_by f (take (i + 1) xs) ≡ sum_by f (take i xs) + f x
sum-more f xs i x h e = ap (sum_by f) (take_more xs i x h) ∙ sum_by_push f (take i xs)
    (get_or xs i x) ∙ ap (λ y. sum_by f (take i xs) + f y) (sym e)

-- a number for each item rises by another
pub sum-rises : {X : Type 0} (f g : X → ℕ) (xs ys : List X) → length ys ≡ length xs
    → ((k : ℕ) (d : X) → k < length xs → f (get_or ys k d) ≡ f (get_or xs k d) + g (get_or xs k d))
    → sum_by f ys ≡ sum_by f xs + sum_by g xs
sum-rises f g [] [] count each = refl
sum-rises f g [] (y ∷ ys) count each = absurd (omega (arith, count))
sum-rises f g (x ∷ xs) [] count each = absurd (omega (arith, count))
sum-rises f g (x ∷ xs) (y ∷ ys) count each =
    omega (
      arith,
      sum_by-cons f y ys,
      sum_by-cons f x xs,
      sum_by-cons g x xs,
      each 0 x (omega arith),
      sum-rises f g xs ys (omega (arith, count))
          (λ k d h. each (suc k) d (omega (arith, h))),
    )

-- a number for each item stays
pub sum-same : {X : Type 0} (f : X → ℕ) (xs ys : List X) → length ys ≡ length xs
    → ((k : ℕ) (d : X) → k < length xs → f (get_or ys k d) ≡ f (get_or xs k d))
    → sum_by f ys ≡ sum_by f xs
sum-same f [] [] count each = refl
sum-same f [] (y ∷ ys) count each = absurd (omega (arith, count))
sum-same f (x ∷ xs) [] count each = absurd (omega (arith, count))
sum-same f (x ∷ xs) (y ∷ ys) count each =
    omega (
      arith,
      sum_by-cons f y ys,
      sum_by-cons f x xs,
      each 0 x (omega arith),
      sum-same f xs ys (omega (arith, count)) (λ k d h. each (suc k) d (omega (arith, h))),
    )

-- Each number rose, and another number of each item says by how much, clamped at `most`: then so do
-- the sums.
pub record Rises (before said after most : ℕ) : Type 0 where
  pub by : ℕ
  pub rose : after ≡ before + by
  pub clamped : min said most ≡ min by most

pub sum-clamped : {X : Type 0} (f m : X → ℕ) (most : ℕ) (xs ys : List X) → length ys ≡ length xs
    → ((k : ℕ) (d : X) → k < length xs → Rises (f (get_or xs k d)) (m (get_or ys k d))
    (f (get_or ys k d)) most)
    → Rises (sum_by f xs) (sum_by m ys) (sum_by f ys) most
sum-clamped f m most [] [] count each = record { by = 0; rose = refl; clamped = refl }
sum-clamped f m most [] (y ∷ ys) count each = absurd (omega (arith, count))
sum-clamped f m most (x ∷ xs) [] count each = absurd (omega (arith, count))
sum-clamped f m most (x ∷ xs) (y ∷ ys) count each =
    let one = each 0 x (omega arith) in
    let rest = sum-clamped f m most xs ys (omega (arith, count))
    (λ k d h. each (suc k) d (omega (arith, h))) in
    record {
      by = one.by + rest.by;
      rose = omega (arith, sum_by-cons f y ys, sum_by-cons f x xs, one.rose, rest.rose);
      clamped = omega (arith, sum_by-cons m y ys, one.clamped, rest.clamped);
    }

-- numbers whose sum is 0
pub sum-zero : {X : Type 0} (f : X → ℕ) (xs : List X) → sum_by f xs ≡ 0 → (k : ℕ) (d : X)
    → k < length xs → f (get_or xs k d) ≡ 0
sum-zero f [] none k d h = absurd (omega (arith, h))
sum-zero f (x ∷ xs) none zero d h = omega (arith, none, sum_by-cons f x xs)
sum-zero f (x ∷ xs) none (suc k) d h = sum-zero f xs (omega (arith, none, sum_by-cons f x xs)) k d
    (omega (arith, h))
