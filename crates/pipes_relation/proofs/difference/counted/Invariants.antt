use Rattle.std.proofs.Common.{◌≡◌, ◌++◌, []}
use Rattle.pipes_relation.specs.Counted.{HasCounts}
use Rattle.pipes_relation.proofs.difference.counted.Given as goal

abbrev pub invariant-loop-row : goal.invariant-loop-row
invariant-loop-row l = (l.fn.rows.items ≡ l.yielded ++ l.row-iterator.rest.items)
    × HasCounts l.counts l.yielded []
