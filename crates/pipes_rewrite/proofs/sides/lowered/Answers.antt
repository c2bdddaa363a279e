use Rattle.std.proofs.Common.{◌≡◌, ℕ, IfOk, subst, ap, ◌∙◌}
use Rattle.pipes_plan.specs.declared.plan.Plan.{Plan}
use Rattle.pipes_rewrite.specs.Changes.{lowered}
use Rattle.pipes_rewrite.specs.Widths.{width}
use Rattle.pipes_rewrite.proofs.sides.lowered.Goals as goal

pub returns : goal.returns
unfolding lowered
returns c = subst (λ (n : ℕ). IfOk c.change_expr.result
    (λ new. new ≡ lowered n c.args.expr.now)) (c.width.ensures
    ∙ ap (λ (p : Plan). width c.args.schemas.now p) c.get.ensures) c.change_expr.ensures
