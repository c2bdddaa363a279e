use Rattle.std.proofs.Common.{◌≡◌, ℕ, IfOk, subst, ap, ◌∙◌}
use Rattle.pipes_plan.specs.declared.plan.Plan.{Plan}
use Rattle.pipes_rewrite.specs.Changes.{turned}
use Rattle.pipes_rewrite.specs.Widths.{width}
use Rattle.pipes_rewrite.proofs.sides.turned.Goals as goal

pub returns : goal.returns
unfolding turned
returns c =
    let left = c.width-left.ensures
    ∙ ap (λ (p : Plan). width c.args.schemas.now p) c.get.ensures in
    let right = c.width.ensures
    ∙ ap (λ (p : Plan). width c.args.schemas.now p) c.get-2.ensures in
    subst (λ (m : ℕ). IfOk c.change_expr.result (λ new. new ≡ turned m
    (width c.args.schemas.now c.args.b.now) c.args.expr.now)) left
    (subst (λ (n : ℕ). IfOk c.change_expr.result (λ new. new ≡ turned c.width-left.result n
    c.args.expr.now)) right c.change_expr.ensures)
