use Rattle.std.proofs.Common.{length}
use Rattle.pipes_print.proofs.CheckedPlans.{plan_checked}
use Rattle.pipes_print.proofs.plan.print_plan.Goals as goal

pub returns-in_err-push_plan-clause-checked : goal.returns-in_err-push_plan-clause-checked
returns-in_err-push_plan-clause-checked c = plan_checked (length c.args.names.now) c.args.plan.now

pub returns-clause-checked : goal.returns-clause-checked
returns-clause-checked c = plan_checked (length c.args.names.now) c.args.plan.now
