use Rattle.pipes_engine.proofs.Ending.{so-far}
use Rattle.pipes_engine.proofs.serving.Serving.tells.Goals as goal

pub returns : goal.returns
returns c = so-far c.args.self.now c.tells.ensures.order c.tells.ensures.written
