use Rattle.std.proofs.Common.{[], ◌∷◌, refl}
use Rattle.pipes_live.proofs.Settling.{tells-live}
use Rattle.pipes_live.proofs.live.Live.tell.Goals as goal

pub returns-clause-tells : goal.returns-clause-tells
returns-clause-tells c = tells-live c.args.self.now _ (c.args.entry ∷ [])
    c.in_ok-tell.ensures.tells refl refl
