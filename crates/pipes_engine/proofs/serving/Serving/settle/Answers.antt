use Rattle.pipes_engine.proofs.Composing.{settles}
use Rattle.pipes_engine.proofs.serving.Serving.settle.Goals as goal

pub returns-clause-settles : goal.returns-clause-settles
returns-clause-settles g c =
    settles c.args.self.now _ _ c.in_ok-write.ensures.answers c.in_ok-pace.ensures.paces
