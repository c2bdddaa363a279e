use Rattle.std.proofs.Common.{◌≡◌, take, fold}
use Rattle.pipes_relation.specs.Aggregate.{smaller, values_at}
use Rattle.pipes_expr.specs.Seen.{value_seen}
use Rattle.pipes_relation.proofs.aggregate.least_value.Given as goal

abbrev pub invariant-loop-row : goal.invariant-loop-row
invariant-loop-row l = value_seen l.best ≡ fold smaller (value_seen l.initial.best)
    (values_at l.column (take l.row-index l.rest))
