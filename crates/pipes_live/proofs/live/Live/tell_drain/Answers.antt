use Rattle.std.proofs.Common.{refl}
use Rattle.pipes_written.specs.Made.{drained}
use Rattle.pipes_live.specs.Lives.{beat_in}
use Rattle.pipes_live.proofs.Settling.{tells-live}
use Rattle.pipes_live.proofs.live.Live.tell_drain.Goals as goal

pub returns-clause-tells : goal.returns-clause-tells
returns-clause-tells c = tells-live c.args.self.now _
    (drained c.args.inputs (beat_in c.args.self.now.state))
    c.in_ok-tell_drain.ensures.tells refl refl
