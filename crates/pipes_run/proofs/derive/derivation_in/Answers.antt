use Rattle.std.proofs.Common.{Err, subst}
use Rattle.pipes_token.specs.declared.refusal.ReadFault.{ReadFault}
use Rattle.pipes_reader.specs.Texts.{ReadAs}
use Rattle.pipes_run.proofs.derive.derivation_in.Goals as goal

pub returns-in-Err-Text-clause-only : goal.returns-in-Err-Text-clause-only
returns-in-Err-Text-clause-only c = λ derivation writes.
    subst (λ (e : ReadFault). ReadAs derivation (Err e)) c.in-Err-Text.field-0-is
    (c.in-Err-Text.ensures.only derivation writes)
