use Rattle.std.proofs.Common.{◌≡◌, ℕ, IfOk, subst, ap, ◌∙◌}
use Rattle.pipes_plan.specs.declared.plan.Plan.{Plan}
use Rattle.pipes_rewrite.specs.Changes.{raised}
use Rattle.pipes_rewrite.specs.Widths.{width}
use Rattle.pipes_rewrite.proofs.sides.raised.Goals as goal

pub returns : goal.returns
unfolding raised
returns c = subst (λ (n : ℕ). IfOk c.change_expr.result
    (λ new. new ≡ raised n c.args.expr.now)) (c.width.ensures
    ∙ ap (λ (p : Plan). width c.args.schemas.now p) c.get.ensures) c.change_expr.ensures
