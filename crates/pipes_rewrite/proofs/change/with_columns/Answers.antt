use Rattle.std.proofs.Common.{◌≡◌, List, ℕ, IfOk, subst}
use Rattle.pipes_expr.specs.declared.expr.Expr.{Expr}
use Rattle.pipes_rewrite.specs.Changes.{column_in, expr_changed}
use Rattle.pipes_rewrite.proofs.change.with_columns.Goals as goal

pub returns : goal.returns
returns c = subst (λ (columns : List ℕ). IfOk c.change_expr.result
    (λ new. new ≡ expr_changed (column_in columns) c.args.expr.now)) c.as_slice.ensures.value
    c.change_expr.ensures
