-- How far a list of messages has come.
use Rattle.std.specs.Prelude.{ℕ, Bool}

-- its heartbeat, and whether it has ended
pub record Progress : Type 0 where
  pub beat : ℕ
  pub ended : Bool
