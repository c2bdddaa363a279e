use Rattle.pipes_engine.specs.Deeds.{a_migration}
use Rattle.pipes_engine.proofs.Composing.{replies}
use Rattle.pipes_engine.proofs.serving.Serving.migrate.Goals as goal

pub returns-clause-answers : goal.returns-clause-answers
returns-clause-answers g c =
    replies c.args.self.now _ _ (a_migration c.args.derivation.now)
    c.in_ok-settle.ensures.settles c.in_ok-reply.ensures.replies
