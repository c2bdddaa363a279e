use Rattle.std.proofs.Common.{refl}
use Rattle.pipes_inflow.proofs.Turning.{stands-new}
use Rattle.pipes_inflow.proofs.inflow.Inflow.new.Goals as goal

pub returns-clause-stands : goal.returns-clause-stands
returns-clause-stands g c = λ gone fresh.
    stands-new c.args.source.now _ _ _ _ gone _ fresh c.in_ok-ahead.ensures.taken refl refl
