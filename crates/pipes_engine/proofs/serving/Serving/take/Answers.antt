use Rattle.std.proofs.Common.{refl, rules}
use Rattle.pipes_engine.proofs.Taking.{takes-in}
use Rattle.pipes_engine.proofs.serving.Serving.take.Goals as goal

pub returns-clause-takes : goal.returns-clause-takes
returns-clause-takes g c =
    takes-in c.args.self.now _ c.args.source c.args.message c.requires.sound c.requires.in_range
    refl refl refl (search rules) c.take.ensures.stays c.in_ok-take.ensures.takes
