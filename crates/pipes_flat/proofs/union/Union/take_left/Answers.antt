use Rattle.std.proofs.Common.{refl}
use Rattle.pipes_flat.specs.UnionLaw.{union_takes_left}
use Rattle.pipes_flat.proofs.union.Union.take_left.Goals as goal

pub returns-clause-takes : goal.returns-clause-takes
returns-clause-takes c = union_takes_left c.args.self.now _ _ c.args.message
    c.least-known.result _ _
    c.least-known.ensures refl refl c.step.ensures.follows refl c.in_ok-keep.ensures
    c.in_ok-send.ensures.sends
