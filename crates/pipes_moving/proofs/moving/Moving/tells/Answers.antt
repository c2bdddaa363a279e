use Rattle.pipes_semantics.specs.Answer.{bags_at, schemas_of}
use Rattle.pipes_standing.proofs.Alike.{alike-back}
use Rattle.pipes_moving.proofs.moving.Moving.tells.Goals as goal

pub returns-clause-order : goal.returns-clause-order
returns-clause-order c = λ query items before after base below from entries alike s.
    c.tells.ensures.order query items entries
    (alike-back (schemas_of query) query.plan before (bags_at query.sources items)
    c.args.self.now.output.beat entries alike s.written)

pub returns-clause-whole : goal.returns-clause-whole
returns-clause-whole c = λ query items before after base below from entries alike s ended.
    c.tells.ensures.whole query items entries
    (alike-back (schemas_of query) query.plan before (bags_at query.sources items)
    c.args.self.now.output.beat entries alike s.written) ended
