-- Elements to which others come.
use Rattle.std.specs.Prelude.{ℕ, ◌≡◌, ◌+◌, List}
use Rattle.pipes_stream.specs.Weights.{weigh}
use Rattle.pipes_timeline.specs.Rules.{Arrival}

-- one element came to the others
pub record AddsArrival (s : Arrival) (old new : List Arrival) : Type 0 where
  pub weight : (f : Arrival → ℕ) → weigh f new ≡ f s + weigh f old
