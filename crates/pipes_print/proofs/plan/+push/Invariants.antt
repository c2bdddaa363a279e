use Rattle.std.proofs.Common.{◌+◌, ◌*◌, max}
use Rattle.pipes_plan.specs.declared.plan.Plan.{size-Plan}
use Rattle.pipes_print.proofs.plan.+push.Given as goal

abbrev pub decreases-push_plan : goal.decreases-push_plan
decreases-push_plan l = 3 * size-Plan l.plan.now

abbrev pub decreases-push_last : goal.decreases-push_last
decreases-push_last l = 3 * size-Plan l.plan.now + 1

abbrev pub decreases-push_both : goal.decreases-push_both
decreases-push_both l = 3 * max (size-Plan l.a.now) (size-Plan l.b.now) + 2
