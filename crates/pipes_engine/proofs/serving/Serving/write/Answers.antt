use Rattle.std.proofs.Common.{refl}
use Rattle.pipes_engine.proofs.Writing.{writes}
use Rattle.pipes_engine.proofs.serving.Serving.write.Goals as goal

pub returns-clause-answers : goal.returns-clause-answers
returns-clause-answers g c =
    writes c.args.self.now _ c.requires.sound c.requires.order
    (record { schemas = refl; plan = refl; replies = refl; end = refl }) c.settle.ensures.stays
    c.in_ok-settle.ensures.settles c.tells.ensures.order c.coalesces.ensures
