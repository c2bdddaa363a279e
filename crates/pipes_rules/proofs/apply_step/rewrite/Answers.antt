use Rattle.std.proofs.Common.{ℕ, List, subst}
use Rattle.pipes_tuple.specs.declared.value.Kind.{Kind}
use Rattle.pipes_rules.specs.Stepping.{Rewrites, rewritten_at, step_form}
use Rattle.pipes_rules.proofs.apply_step.rewrite.Goals as goal

pub returns : goal.returns
returns c =
    subst (λ (ss : List (List Kind)). Rewrites c.rewrite_at.result
    (rewritten_at (step_form ss c.args.step.now) c.args.step.now.path c.args.plan.now))
    c.as_slice-list.ensures.value
    (subst (λ (path : List ℕ). Rewrites c.rewrite_at.result
    (rewritten_at (step_form c.as_slice-list.result.now c.args.step.now) path c.args.plan.now))
    c.as_slice-path.ensures.value c.rewrite_at.ensures)
