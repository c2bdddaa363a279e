-- Tuples by an instant at which something is due for them. Only private functions use these.
use Rattle.std.specs.Prelude.{ℕ, ◌⊎◌, ◌≡◌, ◌≤◌, ◌+◌, ◌-◌, List, [], ◌∷◌}
use Rattle.std.specs.List.{sum_by}
use Rattle.pipes_tuple.specs.declared.value.Value.{Value}

abbrev pub Due : Type 0
Due = ℕ × List Value

-- the one is among the others
abbrev pub Among : Due → List Due → Type 0
Among d [] = ⊥
Among d (x ∷ xs) = (d ≡ x) ⊎ Among d xs

-- one came to the others, if it was not there
pub record Joins (d : Due) (old new : List Due) : Type 0 where
  pub there : Among d new
  pub kept : (x : Due) → Among x old → Among x new
  pub weight : (f : Due → ℕ) → sum_by f new ≤ f d + sum_by f old

-- by how much their instants, together, lie before the instant after `to`
abbrev pub load : ℕ → List Due → ℕ
load to dues = sum_by (λ d. (to + 1) - d.0) dues
