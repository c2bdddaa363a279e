-- Sums of weights.
use Rattle.std.proofs.Common.{◌≡◌, ℕ, zero, suc, ◌+◌, ◌≤◌, Bool, true, false, cond, List}
use Rattle.std.proofs.Common.{[], ◌∷◌, ◌++◌, map, length, Some, slice_get, slice_set}
use Rattle.std.proofs.Common.{refl, ap, ◌∙◌, arith}
use Rattle.std.specs.List.{filter, count_by}
use Rattle.std.proofs.lemmas.List.Sums.{sum_by-cons}
use Rattle.pipes_stream.specs.Weights.{weigh}

module _ {X : Type 0} where
  pub weigh-append : (f : X → ℕ) (xs ys : List X) → weigh f (xs ++ ys) ≡ weigh f xs + weigh f ys
  weigh-append f [] ys = omega arith
  weigh-append f (x ∷ xs) ys = omega (arith, weigh-append f xs ys)

  pub weigh-plus : (f g : X → ℕ) (xs : List X) → weigh (λ x. f x + g x) xs ≡ weigh f xs + weigh g xs
  weigh-plus f g [] = omega arith
  weigh-plus f g (x ∷ xs) = omega (arith, weigh-plus f g xs)

  pub weigh-le : (f g : X → ℕ) → ((x : X) → f x ≤ g x) → (xs : List X) → weigh f xs ≤ weigh g xs
  weigh-le f g h [] = omega arith
  weigh-le f g h (x ∷ xs) = omega (arith, h x, weigh-le f g h xs)

  pub weigh-same : (f g : X → ℕ) → ((x : X) → f x ≡ g x) → (xs : List X) → weigh f xs ≡ weigh g xs
  weigh-same f g h [] = refl
  weigh-same f g h (x ∷ xs) = omega (arith, h x, weigh-same f g h xs)

  pub weigh-none : (f : X → ℕ) → ((x : X) → f x ≡ 0) → (xs : List X) → weigh f xs ≡ 0
  weigh-none f h [] = refl
  weigh-none f h (x ∷ xs) = omega (arith, h x, weigh-none f h xs)

  -- members of no weight in g weigh the same in f and in h
  pub weigh-where : (g f h : X → ℕ) → ((x : X) → g x ≡ 0 → f x ≡ h x) → (xs : List X)
      → weigh g xs ≡ 0 → weigh f xs ≡ weigh h xs
  weigh-where g f h w [] z = refl
  weigh-where g f h w (x ∷ xs) z =
      let a : f x ≡ h x = w x (omega arith) in
      let b : weigh f xs ≡ weigh h xs = weigh-where g f h w xs (omega arith) in
      omega arith

  pub weigh-where_zero : (g f : X → ℕ) → ((x : X) → g x ≡ 0 → f x ≡ 0) → (xs : List X)
      → weigh g xs ≡ 0 → weigh f xs ≡ 0
  weigh-where_zero g f w xs z = weigh-where g f (λ x. 0) w xs z ∙ weigh-none (λ x. 0) (λ x. refl) xs

  -- one member is replaced by another
  pub weigh-set : (g : X → ℕ) (xs : List X) (i : ℕ) (p q : X) → slice_get xs i ≡ Some p
      → weigh g (slice_set xs i q) + g p ≡ weigh g xs + g q
  weigh-set g [] i p q e = absurd cc
  weigh-set g (x ∷ xs) zero p q e = let same : x ≡ p = cc in
      let a : g x ≡ g p = ap g same in omega arith
  weigh-set g (x ∷ xs) (suc i) p q e = omega (arith, weigh-set g xs i p q e)

  -- a member weighs no more than all
  pub weigh-member : (g : X → ℕ) (xs : List X) (i : ℕ) (p : X) → slice_get xs i ≡ Some p
      → g p ≤ weigh g xs
  weigh-member g [] i p e = absurd cc
  weigh-member g (x ∷ xs) zero p e = let same : x ≡ p = cc in
      let a : g x ≡ g p = ap g same in omega arith
  weigh-member g (x ∷ xs) (suc i) p e = omega (arith, weigh-member g xs i p e)

  pub weigh-filter : (f : X → ℕ) (p : X → Bool) (xs : List X)
      → weigh f (filter p xs) ≡ weigh (λ x. cond (p x) (f x) 0) xs
  weigh-filter f p [] = refl
  weigh-filter f p (x ∷ xs) = kept (p x) (weigh-filter f p xs)
    where
      kept : (b : Bool) → weigh f (filter p xs) ≡ weigh (λ x. cond (p x) (f x) 0) xs
          → weigh f (cond b (x ∷ filter p xs) (filter p xs))
          ≡ cond b (f x) 0 + weigh (λ x. cond (p x) (f x) 0) xs
      kept true h = omega (arith, h)
      kept false h = omega (arith, h)

  pub weigh-count : (p : X → Bool) (xs : List X) → count_by p xs ≡ weigh (λ x. cond (p x) 1 0) xs
  weigh-count p [] = refl
  weigh-count p (x ∷ xs) =
      omega (arith, sum_by-cons (λ (x : X). cond {A = ℕ} (p x) 1 0) x xs, weigh-count p xs)

  pub weigh-length : (xs : List X) → weigh (λ x. 1) xs ≡ length xs
  weigh-length [] = refl
  weigh-length (x ∷ xs) = omega (arith, weigh-length xs)

pub weigh-map : {X Y : Type 0} (f : Y → ℕ) (g : X → Y) (xs : List X)
    → weigh f (map g xs) ≡ weigh (λ x. f (g x)) xs
weigh-map f g [] = refl
weigh-map f g (x ∷ xs) = omega (arith, weigh-map f g xs)
