-- Sums over the members of a list, of which the order does not matter.
use Rattle.std.specs.Prelude.{ℕ, ◌+◌, List, [], ◌∷◌}

-- the sum of the weights of the members
abbrev pub weigh : {X : Type 0} → (X → ℕ) → List X → ℕ
weigh f [] = 0
weigh f (x ∷ xs) = f x + weigh f xs
