-- The end of a run: its fault, and what it has written then.
use Rattle.std.specs.Prelude.{◌≡◌, ℕ, List, ◌++◌, Option, Some, None}
use Rattle.pipes_stream.specs.declared.message.Message.{Message}
use Rattle.pipes_stream.specs.Lists.{elements}
use Rattle.pipes_window.specs.declared.item.Item.{Item}
use Rattle.pipes_buffer.specs.declared.IoFault.{IoFault}
use Rattle.pipes_buffer.specs.declared.IoFault.TheVariants as io
use Rattle.pipes_feed.specs.declared.reason.Reason.{Reason}
use Rattle.pipes_feed.specs.declared.reason.Reason.TheVariants as reason
use Rattle.pipes_results.specs.Answered.{AreAnswers}
use Rattle.pipes_results.specs.Kept.{Keeps}
use Rattle.pipes_inline.specs.declared.RunFault.{RunFault}
use Rattle.pipes_inline.specs.declared.RunFault.TheVariants as fault
use Rattle.pipes_inline.specs.declared.underway.Underway.{Underway}
use Rattle.pipes_inline.specs.Standing.{Start, items_from}

-- the fault of a write
abbrev pub fault_of_write : IoFault → RunFault
fault_of_write io.Failed = fault.Write
fault_of_write io.Memory = fault.Memory

-- the fault of a run that the source with this number has stopped
abbrev pub fault_of_stop : ℕ → Reason → Option RunFault
fault_of_stop source reason.AtEnd = None
fault_of_stop source (reason.Row line why) = Some (fault.Row source line why)
fault_of_stop source (reason.Limit line) = Some (fault.Limit source line)
fault_of_stop source reason.Failed = Some (fault.Read source)
fault_of_stop source reason.Memory = Some fault.Memory

-- All came to the top: some of it is on its way out, and the rest waits for that.
pub record IsOver (start : Start) (now : Option (List ℕ)) (taken : ℕ → List Item)
    (underway : Underway) : Type 0 where
  pub done : List Message
  pub kept : Keeps start.written now underway.results (elements done)
  pub answers : AreAnswers start.query (items_from start.query.sources 0 taken)
      (elements (done ++ underway.top.items))
