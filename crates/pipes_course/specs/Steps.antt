-- What the commands of a script do in an inline run, step by step.
use Rattle.std.specs.Prelude.{ℕ, List, [], ◌∷◌, ◌++◌, map, take, Bool, true, false, ◌||◌, ◌==◌}
use Rattle.std.specs.Prelude.{if◌then◌else◌}
use Rattle.pipes_window.specs.declared.item.Item.{Item}
use Rattle.pipes_feed.specs.declared.reason.Reason.{Reason}
use Rattle.pipes_feed.specs.declared.reason.Reason.TheVariants as reason
use Rattle.pipes_feed.specs.Items.{Items}
use Rattle.pipes_query.specs.declared.script.Command.{Command}
use Rattle.pipes_query.specs.declared.script.Command.TheVariants.{Feed, Rest, Await, Migrate, Drain}
use Rattle.pipes_course.specs.Turns.{Turn, Takes, Ends, turns_from, rest_turns, left_of, left_after}

-- a turn is made, or a migrate or drain command asks for its reply
pub data ScriptStep : Type 0 where
  Made : Turn → ScriptStep
  Asked : Command → ScriptStep

-- The steps of commands while these turns are left: `feed` makes so many turns of its source, and
-- `rest` all that are left of all sources, as the end does. `await` stands in no inline script.
abbrev pub steps_of : List (List Turn) → List Command → List ScriptStep
steps_of left [] = map Made (rest_turns left)
steps_of left (Feed source n ∷ cs) =
    map Made (take n (left_of left source)) ++ steps_of (left_after n source left) cs
steps_of left (Rest ∷ cs) = map Made (rest_turns left) ++ steps_of [] cs
steps_of left (Await h ∷ cs) = steps_of left cs
steps_of left (Migrate file ∷ cs) = Asked (Migrate file) ∷ steps_of left cs
steps_of left (Drain ∷ cs) = Asked Drain ∷ steps_of left cs

-- ---- up to a fault

-- a source that ends so stops the run
abbrev pub is_fault : Reason → Bool
is_fault reason.AtEnd = false
is_fault (reason.Row line why) = true
is_fault reason.Failed = true
is_fault (reason.Limit line) = true
is_fault reason.Memory = true

abbrev pub stops_run : ScriptStep → Bool
stops_run (Made (Takes source item)) = false
stops_run (Made (Ends source why)) = is_fault why
stops_run (Asked command) = false

-- the steps up to the first that stops the run, that one included
abbrev pub until_stop : List ScriptStep → List ScriptStep
until_stop [] = []
until_stop (s ∷ ss) = if stops_run s then s ∷ [] else s ∷ until_stop ss

-- all steps of an inline run over these arrivals
abbrev pub inline_steps : List Command → List Items → List ScriptStep
inline_steps commands arrivals = until_stop (steps_of (turns_from 0 arrivals) commands)

-- ---- what was taken

-- the arrivals that steps took of a source
abbrev pub taken_from : ℕ → List ScriptStep → List Item
taken_from source [] = []
taken_from source (Made (Takes other item) ∷ ss) =
    if source == other then item ∷ taken_from source ss else taken_from source ss
taken_from source (Made (Ends other why) ∷ ss) = taken_from source ss
taken_from source (Asked command ∷ ss) = taken_from source ss

-- whether a source has ended in steps
abbrev pub has_ended : ℕ → List ScriptStep → Bool
has_ended source [] = false
has_ended source (Made (Takes other item) ∷ ss) = has_ended source ss
has_ended source (Made (Ends other why) ∷ ss) = (source == other) || has_ended source ss
has_ended source (Asked command ∷ ss) = has_ended source ss
