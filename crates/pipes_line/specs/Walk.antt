-- A walk over a record, by the states and actions of `csv`.
use Rattle.csv.specs.declared.parser.State.{State}
use Rattle.csv.specs.declared.parser.State.TheVariants as state
use Rattle.csv.specs.declared.parser.Action.{Action}
use Rattle.csv.specs.declared.parser.Action.TheVariants as action
use Rattle.pipes_line.specs.declared.quoted.Walk.{Walk}
use Rattle.pipes_line.specs.declared.quoted.Walk.TheVariants as walk
use Rattle.pipes_line.specs.declared.quoted.Fate.{Fate}
use Rattle.pipes_line.specs.declared.quoted.Fate.TheVariants as fate

abbrev pub state_of : Walk → State
state_of walk.Record = state.StartRecord
state_of walk.Field = state.StartField
state_of walk.Bare = state.InField
state_of walk.Quoted = state.InQuoted
state_of walk.Quote = state.AfterQuote

abbrev pub action_of : Fate → Action
action_of fate.Dropped = action.Skip
action_of fate.Kept = action.Copy
action_of fate.Comma = action.EndField
