use Rattle.std.proofs.Common.{refl}
use Rattle.pipes_minus.proofs.Tallying.{remove_left, remove_right}
use Rattle.pipes_minus.proofs.counts.DifferenceRuleCounts.remove.Goals as goal

pub returns-in-0 : goal.returns-in-0
returns-in-0 c =
    remove_left c.args.port c.args.tally.now _ c.args._tuple.now c.in-0.is
    c.saturating_sub-tally.ensures refl

pub returns-in-1 : goal.returns-in-1
returns-in-1 c =
    remove_right c.args.port c.args.tally.now _ c.args._tuple.now c.in-1.is refl
    c.saturating_sub-tally-in-1.ensures
