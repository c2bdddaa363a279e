use Rattle.std.proofs.Common.{◌≡◌, ◌++◌}
use Rattle.pipes_relation.specs.Relations.{distinct}
use Rattle.pipes_relation.proofs.rows.distinct.Given as goal

abbrev pub invariant-loop-row : goal.invariant-loop-row
invariant-loop-row l = l.seen.keys ≡ distinct l.yielded

abbrev pub invariant-loop-row-2 : goal.invariant-loop-row-2
invariant-loop-row-2 l = l.out.items ++ l.row-iterator ≡ l.initial.row-iterator
