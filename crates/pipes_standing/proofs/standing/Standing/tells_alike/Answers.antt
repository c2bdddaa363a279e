use Rattle.pipes_semantics.specs.Answer.{bags_at, schemas_of}
use Rattle.pipes_standing.proofs.Alike.{alike-back}
use Rattle.pipes_standing.proofs.standing.Standing.tells_alike.Goals as goal

pub returns-clause-order : goal.returns-clause-order
returns-clause-order c = λ query items plan base by_source got entries alike calm.
    c.tells.ensures.order query items entries
    (alike-back (schemas_of query) query.plan plan (bags_at query.sources items)
    c.args.self.now.output.beat entries alike calm.written)

pub returns-clause-whole : goal.returns-clause-whole
returns-clause-whole c = λ query items plan base by_source got entries alike calm ended.
    c.tells.ensures.whole query items entries
    (alike-back (schemas_of query) query.plan plan (bags_at query.sources items)
    c.args.self.now.output.beat entries alike calm.written) ended
