use Rattle.std.proofs.Common.{◌≡◌}
use Rattle.pipes_relation.specs.Relations.{minus}
use Rattle.pipes_relation.specs.Counted.{HasCounts}
use Rattle.pipes_relation.proofs.difference.minus.Given as goal

abbrev pub invariant-loop-row : goal.invariant-loop-row
invariant-loop-row l = (l.out.items ≡ minus l.yielded l.fn.right.items)
    × HasCounts l.counts l.fn.right.items l.yielded
