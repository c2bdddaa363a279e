use Rattle.std.proofs.Common.{rules, refl}
use Rattle.pipes_minus.proofs.Tallying.{add_left, add_right}
use Rattle.pipes_minus.proofs.counts.DifferenceRuleCounts.add.Goals as goal

pub returns-in_ok-tally-in-0 : goal.returns-in_ok-tally-in-0
returns-in_ok-tally-in-0 c =
    add_left c.args.port c.args.tally.now _ c.args._tuple.now c.in-0.is (search rules) refl

pub returns-in_ok-tally-in-1 : goal.returns-in_ok-tally-in-1
returns-in_ok-tally-in-1 c =
    add_right c.args.port c.args.tally.now _ c.args._tuple.now c.in-1.is refl (search rules)
