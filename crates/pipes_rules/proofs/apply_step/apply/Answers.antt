use Rattle.pipes_rules.proofs.Applying.{checked_sound}
use Rattle.pipes_rules.proofs.apply_step.apply.Goals as goal

pub returns-in-Ok-clause-sound : goal.returns-in-Ok-clause-sound
returns-in-Ok-clause-sound c = checked_sound c.args.schemas.now c.args.step.now c.args.plan.now
    c.in_ok-new.new c.in-Ok.field-0 c.requires.typed c.in_ok-new.ensures c.in-Ok.ensures.1
