-- How far a list of messages has come.
use Rattle.std.specs.Prelude.{ℕ, ◌≡◌, ◌≤◌, false, List}
use Rattle.pipes_stream.specs.declared.message.Message.{Message}
use Rattle.pipes_stream.specs.Lists.{run, start_of_list, Valid, beat}

-- the list is valid, has not ended, and has come no further than an instant
pub record HasComeTo (now : ℕ) (sent : List Message) : Type 0 where
  pub valid : Valid sent
  pub going : (run start_of_list sent).ended ≡ false
  pub at_most : beat sent ≤ now
