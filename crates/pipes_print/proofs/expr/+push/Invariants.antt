use Rattle.std.proofs.Common.{◌+◌, ◌*◌, max}
use Rattle.pipes_expr.specs.declared.expr.Expr.{size-Expr}
use Rattle.pipes_print.proofs.expr.+push.Given as goal

abbrev pub decreases-push_expr : goal.decreases-push_expr
decreases-push_expr l = 2 * size-Expr l.expr.now

abbrev pub decreases-push_sides : goal.decreases-push_sides
decreases-push_sides l = 2 * max (size-Expr l.a.now) (size-Expr l.b.now) + 1
