use Rattle.std.proofs.Common.{◌≡◌}
use Rattle.std.specs.List.{filter}
use Rattle.pipes_expr.specs.ExprValue.{passes}
use Rattle.pipes_relation.proofs.rows.filtered.Given as goal

abbrev pub invariant-loop-row : goal.invariant-loop-row
invariant-loop-row l = l.out.items ≡ filter (passes l.condition) l.yielded
