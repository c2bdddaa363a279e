-- How a run ends.
use Rattle.std.specs.Prelude.{ℕ, List, [], ◌∷◌, Option, Some, None, if◌then◌else◌}
use Rattle.pipes_feed.specs.declared.reason.Reason.{Reason}
use Rattle.pipes_feed.specs.declared.reason.Reason.TheVariants as reason
use Rattle.pipes_course.specs.declared.fault.RunFault.{RunFault}
use Rattle.pipes_course.specs.declared.fault.RunFault.TheVariants as fault
use Rattle.pipes_course.specs.Turns.{Takes, Ends}
use Rattle.pipes_course.specs.Steps.{ScriptStep, Made, Asked, is_fault}

-- with all sources at their ends; stopped by the fault of a source, after which all that was taken
-- is still brought to its end; or cut short, by a failed write or for want of memory
pub data Ending : Type 0 where
  Whole : Ending
  Stopped : ℕ → Reason → Ending
  Cut : Ending

-- how steps end: with the fault of a source, or with none
abbrev pub ending_of : List ScriptStep → Ending
ending_of [] = Whole
ending_of (Made (Takes source item) ∷ ss) = ending_of ss
ending_of (Made (Ends source why) ∷ ss) =
    if is_fault why then Stopped source why else ending_of ss
ending_of (Asked command ∷ ss) = ending_of ss

-- how a run that began ends with a fault: two come before any run
abbrev pub ending_with : Option RunFault → Option Ending
ending_with None = Some Whole
ending_with (Some (fault.Missing source)) = None
ending_with (Some (fault.Unfound source)) = None
ending_with (Some (fault.Row source line why)) = Some (Stopped source (reason.Row line why))
ending_with (Some (fault.Limit source line)) = Some (Stopped source (reason.Limit line))
ending_with (Some (fault.Unread source)) = Some (Stopped source reason.Failed)
ending_with (Some fault.Write) = Some Cut
ending_with (Some fault.Memory) = Some Cut
