use Rattle.std.proofs.Common.{take}
use Rattle.pipes_relation.proofs.Sums.{IsSumOf}
use Rattle.pipes_relation.proofs.aggregate.exact_sum.Given as goal

abbrev pub invariant-loop-row : goal.invariant-loop-row
invariant-loop-row l = IsSumOf l.column (take l.row-index l.rows) l.row-index l.sum
