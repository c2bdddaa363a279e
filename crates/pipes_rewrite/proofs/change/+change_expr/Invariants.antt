use Rattle.std.proofs.Common.{◌+◌, ◌*◌, max}
use Rattle.pipes_expr.specs.declared.expr.Expr.{size-Expr}
use Rattle.pipes_rewrite.proofs.change.+change_expr.Given as goal

abbrev pub decreases-change_expr : goal.decreases-change_expr
decreases-change_expr l = 2 * size-Expr l.expr.now

abbrev pub decreases-change_binary : goal.decreases-change_binary
decreases-change_binary l = 2 * max (size-Expr l.a.now) (size-Expr l.b.now) + 1

abbrev pub decreases-change_negation : goal.decreases-change_negation
decreases-change_negation l = 2 * size-Expr l.a.now + 1
