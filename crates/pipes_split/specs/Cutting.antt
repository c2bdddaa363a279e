-- An element in two parts.
use Rattle.std.specs.Prelude.{ℕ, ◌≡◌, ◌≤◌, ◌<◌, ◌↔◌, Option, Some, None}
use Rattle.pipes_time.specs.Interval.{Holds}
use Rattle.pipes_stream.specs.declared.Elem.{Elem}

-- the part of the element at exactly the instants that are so, or none where no instant is
abbrev pub IsPartOf : Elem → (ℕ → Type 0) → Option Elem → Type 0
IsPartOf e P None = (t : ℕ) → ¬ P t
IsPartOf e P (Some part) = (part.tuple ≡ e.tuple) × ((t : ℕ) → Holds part.span t ↔ P t)

-- the element's instants before the split, and those from the split on
pub record IsCut (e : Elem) (split : ℕ) (first second : Option Elem) : Type 0 where
  pub below : IsPartOf e (λ t. Holds e.span t × (t < split)) first
  pub above : IsPartOf e (λ t. Holds e.span t × (split ≤ t)) second
