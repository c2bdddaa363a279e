use Rattle.std.proofs.Common.{rules}
use Rattle.pipes_rewrite.specs.ColumnChange.{meant}
use Rattle.pipes_rewrite.proofs.ChangedLoop.{changed_more}
use Rattle.pipes_rewrite.proofs.change.change_all.Goals as goal

pub loop-expr-preserved : goal.loop-expr-preserved
loop-expr-preserved c =
    changed_more (meant c.args.change) c.args.exprs.now c.loop-expr.expr-index c.expr-item.result
    c.loop-expr.list.items c.push.new.self.items c.in-Some.new c.loop-expr-test.true c.expr-item.is
    c.loop-expr.invariant (search rules) (search rules)
