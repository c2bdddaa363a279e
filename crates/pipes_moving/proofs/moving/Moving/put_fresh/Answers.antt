use Rattle.std.proofs.Common.{refl}
use Rattle.pipes_moving.proofs.Taking.{takes-fresh}
use Rattle.pipes_moving.proofs.moving.Moving.put_fresh.Goals as goal

pub returns-clause-takes : goal.returns-clause-takes
returns-clause-takes g c =
    takes-fresh c.args.self.now _ c.args.source c.args.message c.in_ok-put.ensures.puts refl refl
    refl refl c.requires.may
