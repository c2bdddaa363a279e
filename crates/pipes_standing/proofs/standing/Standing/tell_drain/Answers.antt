use Rattle.std.proofs.Common.{refl}
use Rattle.pipes_standing.proofs.Calming.{tells-drain}
use Rattle.pipes_standing.proofs.standing.Standing.tell_drain.Goals as goal

pub returns-clause-tells : goal.returns-clause-tells
returns-clause-tells c =
    tells-drain c.args.self.now _ c.reserve.new.self c.args.inputs refl refl
    c.in_ok-reserve.ensures.adds c.drain.ensures.adds c.drain.ensures.written
