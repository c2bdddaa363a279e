-- Lists of elements that grow, and not below a heartbeat.
use Rattle.std.specs.Prelude.{ℕ, ◌≤◌, List, [], ◌∷◌}
use Rattle.pipes_stream.specs.declared.Elem.{Elem}

-- the second list has the elements of the first in their order, and between them others, which
-- start at or above the heartbeat
pub data Grown (beat : ℕ) : List Elem → List Elem → Type 0 where
  empty : Grown beat [] []
  kept : {e : Elem} {es all : List Elem} → Grown beat es all → Grown beat (e ∷ es) (e ∷ all)
  added : {e : Elem} {es all : List Elem} → beat ≤ e.span.start → Grown beat es all
      → Grown beat es (e ∷ all)
