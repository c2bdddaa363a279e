use Rattle.pipes_engine.specs.Deeds.{a_drain}
use Rattle.pipes_engine.proofs.Composing.{replies}
use Rattle.pipes_engine.proofs.serving.Serving.drain.Goals as goal

pub returns-clause-answers : goal.returns-clause-answers
returns-clause-answers g c =
    replies c.args.self.now _ _ a_drain c.in_ok-settle.ensures.settles
    c.in_ok-tell_drain.ensures.replies
