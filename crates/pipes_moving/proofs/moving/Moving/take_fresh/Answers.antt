use Rattle.std.proofs.Common.{rules}
use Rattle.pipes_moving.proofs.Taking.{passes-fresh}
use Rattle.pipes_moving.proofs.moving.Moving.take_fresh.Goals as goal

pub returns-then-not-may_come_fresh-clause-takes : goal.returns-then-not-may_come_fresh-clause-takes
returns-then-not-may_come_fresh-clause-takes g c =
    passes-fresh c.args.self.now c.args.source c.args.message (search rules)
