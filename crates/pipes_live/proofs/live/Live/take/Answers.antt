use Rattle.std.proofs.Common.{rules}
use Rattle.pipes_live.proofs.Watching.{passes-over}
use Rattle.pipes_live.proofs.live.Live.take.Goals as goal

pub returns-then-not-may_come-clause-takes : goal.returns-then-not-may_come-clause-takes
returns-then-not-may_come-clause-takes g c =
    passes-over c.args.self.now c.args.source c.args.message c.requires.in_range (search rules)
