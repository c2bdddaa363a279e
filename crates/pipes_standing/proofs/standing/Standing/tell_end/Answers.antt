use Rattle.std.proofs.Common.{[], ◌∷◌, refl}
use Rattle.pipes_written.specs.Made.{last_entry}
use Rattle.pipes_standing.proofs.Calming.{tells, no-end}
use Rattle.pipes_standing.proofs.standing.Standing.tell_end.Goals as goal

pub returns-clause-tells : goal.returns-clause-tells
returns-clause-tells c =
    tells c.args.self.now _ c.reserve.new.self (last_entry c.args.stopped ∷ []) refl refl
    (no-end c.args.stopped) c.in_ok-reserve.ensures.adds c.end.ensures.adds c.end.ensures.written
