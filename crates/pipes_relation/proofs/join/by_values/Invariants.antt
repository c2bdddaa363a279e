use Rattle.pipes_relation.specs.Tables.{IsTable, values_in}
use Rattle.pipes_relation.proofs.join.by_values.Given as goal

abbrev pub invariant-loop-row : goal.invariant-loop-row
invariant-loop-row l = IsTable (values_in l.columns) l.yielded l.table.keys.keys
    l.table.groups.items
