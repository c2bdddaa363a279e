use Rattle.std.proofs.Common.{[], ◌∷◌, refl}
use Rattle.pipes_written.specs.Made.{last_entry}
use Rattle.pipes_live.proofs.Settling.{tells-live}
use Rattle.pipes_live.proofs.live.Live.tell_end.Goals as goal

pub returns-clause-tells : goal.returns-clause-tells
returns-clause-tells c = tells-live c.args.self.now _ (last_entry c.args.stopped ∷ [])
    c.in_ok-tell_end.ensures.tells refl refl
