use Rattle.pipes_expr.proofs.ExprRefusal.{limits_pass}
use Rattle.pipes_expr.proofs.expr.Expr.check.Goals as goal

pub returns : goal.returns
returns c =
    limits_pass c.args.self.now c.args.kinds.now c.spend.result c.is_within.result
    c.read_expr.result c.spend.ensures c.if-is_none.ensures c.is_within.ensures
    c.if-not-is_within.false c.read_expr.ensures
