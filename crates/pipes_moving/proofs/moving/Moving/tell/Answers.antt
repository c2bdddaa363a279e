use Rattle.std.proofs.Common.{[], ◌∷◌, refl}
use Rattle.pipes_standing.proofs.Calming.{no-result}
use Rattle.pipes_moving.proofs.Settling.{tells}
use Rattle.pipes_moving.proofs.moving.Moving.tell.Goals as goal

pub returns-clause-tells : goal.returns-clause-tells
returns-clause-tells c =
    tells c.args.self.now _ c.reserve.new.self (c.args.entry ∷ [])
    (record { old_works = refl; fresh_works = refl; olds = refl; news = refl; seam = refl })
    (no-result c.args.entry c.requires.of_move) c.in_ok-reserve.ensures.adds c.tell.ensures.adds
    c.tell.ensures.written
