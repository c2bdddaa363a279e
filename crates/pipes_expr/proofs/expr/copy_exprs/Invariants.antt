use Rattle.std.proofs.Common.{◌≡◌, take}
use Rattle.pipes_expr.proofs.expr.copy_exprs.Given as goal

abbrev pub invariant-loop-expr : goal.invariant-loop-expr
invariant-loop-expr l = l.list.items ≡ take l.expr-index l.expr-items
