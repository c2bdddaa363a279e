use Rattle.std.proofs.Common.{refl}
use Rattle.pipes_engine.proofs.Replying.{drains}
use Rattle.pipes_engine.proofs.serving.Serving.tell_drain.Goals as goal

pub returns-clause-replies : goal.returns-clause-replies
returns-clause-replies c =
    drains c.args.self.now _ c.requires.sound c.inputs_beat-inputs.result c.keeps_up.ensures
    c.inputs_beat-inputs.ensures
    (record { schemas = refl; plan = refl; replies = refl; end = refl })
    c.tell_drain.ensures.stays c.in_ok-tell_drain.ensures.tells
