use Rattle.std.proofs.Common.{Err, subst}
use Rattle.pipes_token.specs.declared.refusal.ReadFault.{ReadFault}
use Rattle.pipes_reader.specs.Texts.{ReadAs}
use Rattle.pipes_run.proofs.Queries.{gives_checked, no_other}
use Rattle.pipes_run.proofs.query.query_in.Goals as goal

pub returns-in-Ok-clause-gives : goal.returns-in-Ok-clause-gives
returns-in-Ok-clause-gives c = gives_checked c.args.bytes.now c.in-Ok.query c.checked.result
    c.in-Ok.ensures.found c.checked.ensures.same c.checked.ensures.checks c.checked.ensures.refused

pub returns-in-Ok-clause-only : goal.returns-in-Ok-clause-only
returns-in-Ok-clause-only c = λ query writes. no_other c.in-Ok.query query c.checked.result
    (c.in-Ok.ensures.only query writes.0) writes.1 c.checked.ensures.same c.checked.ensures.refused

pub returns-in-Err-Text-clause-only : goal.returns-in-Err-Text-clause-only
returns-in-Err-Text-clause-only c = λ query writes. subst (λ (e : ReadFault). ReadAs query (Err e))
    c.in-Err-Text.field-0-is (c.in-Err-Text.ensures.only query writes.0)
