use Rattle.std.proofs.Common.{refl}
use Rattle.pipes_pair.specs.JoinLaw.{join_takes_right}
use Rattle.pipes_pair.proofs.join.Join.take_right.Goals as goal

pub returns-clause-takes : goal.returns-clause-takes
returns-clause-takes g c =
    join_takes_right c.args.self.now _ _ c.args.message c.least-known.result _ _
    c.least-known.ensures
    refl
    refl refl c.in_ok-admit.ensures.admits c.in_ok-send.ensures.sends
