use Rattle.pipes_derivation.proofs.PrintLaws.{derivation_writable}
use Rattle.pipes_derivation.proofs.print.print_derivation.Goals as goal

pub returns-in_err-push_steps-clause-writable : goal.returns-in_err-push_steps-clause-writable
returns-in_err-push_steps-clause-writable c =
    derivation_writable c.args.query.now c.args.derivation.now

pub returns-in_err-push_plan-clause-writable : goal.returns-in_err-push_plan-clause-writable
returns-in_err-push_plan-clause-writable c =
    derivation_writable c.args.query.now c.args.derivation.now

pub returns-clause-writable : goal.returns-clause-writable
returns-clause-writable c = derivation_writable c.args.query.now c.args.derivation.now
