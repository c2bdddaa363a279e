use Rattle.std.proofs.Common.{take}
use Rattle.std.specs.List.{All}
use Rattle.pipes_output.specs.Lines.{IsEntry}
use Rattle.pipes_engine.proofs.limits.are_entries.Given as goal

abbrev pub invariant-entries : goal.invariant-entries
invariant-entries l = All IsEntry (take l.entry-index l.entries)
