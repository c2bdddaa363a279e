use Rattle.std.proofs.Common.{◌≡◌, take}
use Rattle.pipes_tuple.specs.Columns.{at_columns}
use Rattle.pipes_tuple.proofs.value.copy_at.Given as goal

abbrev pub invariant-loop-column : goal.invariant-loop-column
invariant-loop-column l = l.copies.items ≡ at_columns (take l.column-index l.columns) l.values
