-- When one list of messages says the same as another: no reader that goes by elements, heartbeat
-- and end can tell them apart.
use Rattle.std.specs.Prelude.{◌≡◌, List}
use Rattle.pipes_stream.specs.declared.message.Message.{Message}
use Rattle.pipes_stream.specs.Progress.{Progress}
use Rattle.pipes_stream.specs.Lists.{run, start_of_list, ValidFrom, elements}

-- after p, `now` is valid and says what `was` says: the same elements in the same order, and the
-- same heartbeat and end
pub record SaysFrom (p : Progress) (was now : List Message) : Type 0 where
  pub valid : ValidFrom p now
  pub progress : run p now ≡ run p was
  pub same_elements : elements now ≡ elements was

abbrev pub Says : List Message → List Message → Type 0
Says was now = SaysFrom start_of_list was now
