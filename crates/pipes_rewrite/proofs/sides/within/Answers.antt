use Rattle.std.proofs.Common.{◌≡◌, ℕ, IfOk, subst, ap, ◌∙◌}
use Rattle.pipes_plan.specs.declared.plan.Plan.{Plan}
use Rattle.pipes_rewrite.specs.Changes.{kept_below}
use Rattle.pipes_rewrite.specs.Widths.{width}
use Rattle.pipes_rewrite.proofs.sides.within.Goals as goal

pub returns : goal.returns
unfolding kept_below
returns c = subst (λ (n : ℕ). IfOk c.change_expr.result
    (λ new. new ≡ kept_below n c.args.expr.now)) (c.width.ensures
    ∙ ap (λ (p : Plan). width c.args.schemas.now p) c.get.ensures) c.change_expr.ensures
