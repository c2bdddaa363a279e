use Rattle.pipes_rules.proofs.StepByStep.{sound_more}
use Rattle.pipes_rules.proofs.derivation.+derive_rest.Goals as goal

pub returns-in-Ok-clause-sound : goal.returns-in-Ok-clause-sound
returns-in-Ok-clause-sound t c = sound_more c.args.schemas.now c.args.plan.now c.args.new.now
    c.args.number c.derive_rest.result c.in-Ok.next c.in-Ok.ensures.sound
    c.derive_rest.ensures.sound
