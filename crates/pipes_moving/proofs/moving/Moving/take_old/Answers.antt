use Rattle.std.proofs.Common.{rules}
use Rattle.pipes_moving.proofs.Taking.{passes-old}
use Rattle.pipes_moving.proofs.moving.Moving.take_old.Goals as goal

pub returns-then-not-may_come_old-clause-takes : goal.returns-then-not-may_come_old-clause-takes
returns-then-not-may_come_old-clause-takes g c =
    passes-old c.args.self.now c.args.source c.args.message (search rules)
