use Rattle.pipes_text.specs.Printing.{with_plan}
use Rattle.pipes_text.proofs.WritableLaws.{query_printed, checked_printed}
use Rattle.pipes_text.proofs.print.print_plan.Goals as goal

pub returns-in_err-push_plan-clause-read_back : goal.returns-in_err-push_plan-clause-read_back
returns-in_err-push_plan-clause-read_back c =
    λ h. query_printed (with_plan c.args.query.now c.args.plan.now) h

pub returns-clause-read_back : goal.returns-clause-read_back
returns-clause-read_back c = λ h. query_printed (with_plan c.args.query.now c.args.plan.now) h

pub returns-in_err-push_plan-clause-checked : goal.returns-in_err-push_plan-clause-checked
returns-in_err-push_plan-clause-checked c =
    λ h d. checked_printed c.args.query.now c.args.plan.now h d

pub returns-clause-checked : goal.returns-clause-checked
returns-clause-checked c = λ h d. checked_printed c.args.query.now c.args.plan.now h d
