use Rattle.std.proofs.Common.{refl}
use Rattle.pipes_moving.proofs.Settling.{tells-drain}
use Rattle.pipes_moving.proofs.moving.Moving.tell_drain.Goals as goal

pub returns-clause-tells : goal.returns-clause-tells
returns-clause-tells c =
    tells-drain c.args.self.now _ c.reserve.new.self c.args.inputs
    (record { old_works = refl; fresh_works = refl; olds = refl; news = refl; seam = refl })
    c.in_ok-reserve.ensures.adds c.drain.ensures.adds c.drain.ensures.written
