use Rattle.pipes_minus.proofs.Tallying.{has_none}
use Rattle.pipes_minus.proofs.counts.DifferenceRuleCounts.is_empty.Goals as goal

pub returns-then-tally-eq0 : goal.returns-then-tally-eq0
returns-then-tally-eq0 c = has_none c.args.tally.now c.if-tally-eq0.true
