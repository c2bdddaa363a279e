-- Lists whose keys never fall.
use Rattle.std.specs.Prelude.{ℕ, ◌≤◌, List, [], ◌∷◌, ⊤}

-- from this number on, the keys never fall
abbrev pub RisesBy : {X : Type 0} → (X → ℕ) → ℕ → List X → Type 0
RisesBy key low [] = ⊤
RisesBy key low (x ∷ xs) = (low ≤ key x) × RisesBy key (key x) xs
