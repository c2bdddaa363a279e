use Rattle.pipes_tuple.specs.Columns.{at_columns}
use Rattle.pipes_relation.specs.Tables.{IsTable}
use Rattle.pipes_relation.proofs.group.by_columns.Given as goal

abbrev pub invariant-loop-row : goal.invariant-loop-row
invariant-loop-row l = IsTable (at_columns l.columns) l.yielded l.table.keys.keys
    l.table.groups.items
