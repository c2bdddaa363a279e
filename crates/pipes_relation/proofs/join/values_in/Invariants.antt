use Rattle.std.proofs.Common.{◌≡◌, take}
use Rattle.pipes_relation.specs.Tables.{values_in}
use Rattle.pipes_relation.proofs.join.values_in.Given as goal

abbrev pub invariant-loop-column : goal.invariant-loop-column
invariant-loop-column l = l.values.items ≡ values_in (take l.column-index l.columns) l.row
