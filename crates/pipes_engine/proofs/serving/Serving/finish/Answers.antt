use Rattle.pipes_engine.proofs.Composing.{finishes}
use Rattle.pipes_engine.proofs.serving.Serving.finish.Goals as goal

pub returns-clause-finishes : goal.returns-clause-finishes
returns-clause-finishes g c =
    finishes c.args.self.now _ _ c.args.stopped c.in_ok-settle.ensures.settles
    c.in_ok-tell_end.ensures.ends
