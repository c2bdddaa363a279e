use Rattle.std.proofs.Common.{refl}
use Rattle.pipes_live.proofs.Settling.{settles-live}
use Rattle.pipes_live.proofs.live.Live.settle.Goals as goal

pub returns-clause-settles : goal.returns-clause-settles
returns-clause-settles g c = settles-live c.args.self.now _
    c.in_ok-settle.ensures.settles refl refl
