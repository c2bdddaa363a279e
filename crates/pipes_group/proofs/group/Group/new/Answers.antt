use Rattle.std.proofs.Common.{refl, subst, sym}
use Rattle.pipes_plan.specs.declared.plan.Plan.TheVariants as plan
use Rattle.pipes_plan.specs.PlanKinds.{IsTyped}
use Rattle.std.proofs.Common.{[], ◌∷◌}
use Rattle.pipes_group.specs.declared.tally.Grouping.{Grouping}
use Rattle.pipes_group.proofs.GroupSteps.{group_new}
use Rattle.pipes_group.proofs.group.Group.new.Goals as goal

pub returns-clause-stands : goal.returns-clause-stands
returns-clause-stands c =
    group_new _ refl
    (subst (λ (g : Grouping). IsTyped (plan.Group g.columns g.aggs (plan.Source 0))
    (c.args.schema ∷ [])) (sym c.new-line.ensures.rule) c.requires)
    c.new-watch.ensures c.new-line.ensures.instant c.new-line.ensures.slots
    c.new-line.ensures.pieces c.new-line.ensures.ends
