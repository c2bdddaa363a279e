use Rattle.std.proofs.Common.{◌≡◌, take, fold}
use Rattle.pipes_relation.specs.Aggregate.{greater, values_at}
use Rattle.pipes_expr.specs.Seen.{value_seen}
use Rattle.pipes_relation.proofs.aggregate.greatest_value.Given as goal

abbrev pub invariant-loop-row : goal.invariant-loop-row
invariant-loop-row l = value_seen l.best ≡ fold greater (value_seen l.initial.best)
    (values_at l.column (take l.row-index l.rest))
