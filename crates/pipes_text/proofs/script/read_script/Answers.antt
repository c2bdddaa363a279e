use Rattle.pipes_text.proofs.WritableScripts.{script_writable}
use Rattle.pipes_text.proofs.script.read_script.Goals as goal

pub returns-in_err-names-clause-writable : goal.returns-in_err-names-clause-writable
returns-in_err-names-clause-writable c =
    λ script h. script_writable c.args.query.now c.args.mode script h

pub returns-clause-writable : goal.returns-clause-writable
returns-clause-writable c = λ script h. script_writable c.args.query.now c.args.mode script h
