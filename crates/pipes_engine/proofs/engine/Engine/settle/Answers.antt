use Rattle.pipes_engine.proofs.Composing.{settled}
use Rattle.pipes_engine.proofs.engine.Engine.settle.Goals as goal

pub returns-clause-answers : goal.returns-clause-answers
returns-clause-answers g c =
    settled c.args.self.now.serving _ c.in_ok-settle.ensures.settles
