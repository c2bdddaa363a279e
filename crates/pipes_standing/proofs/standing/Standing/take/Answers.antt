use Rattle.std.proofs.Common.{rules}
use Rattle.pipes_standing.proofs.Calming.{passes-over}
use Rattle.pipes_standing.proofs.standing.Standing.take.Goals as goal

pub returns-then-not-may_come-clause-takes : goal.returns-then-not-may_come-clause-takes
returns-then-not-may_come-clause-takes g c =
    passes-over c.args.self.now c.args.source c.args.message (search rules)
