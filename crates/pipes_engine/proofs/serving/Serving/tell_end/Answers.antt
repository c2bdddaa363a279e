use Rattle.pipes_engine.proofs.Ending.{ends-in}
use Rattle.pipes_engine.proofs.serving.Serving.tell_end.Goals as goal

pub returns-clause-ends : goal.returns-clause-ends
returns-clause-ends c =
    ends-in c.args.self.now _ c.requires.sound c.args.stopped c.keeps_up.ensures
    c.in_ok-tell_end.ensures.tells c.tells.ensures.order c.tells.ensures.whole
