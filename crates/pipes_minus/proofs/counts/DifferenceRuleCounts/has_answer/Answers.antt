use Rattle.pipes_minus.proofs.Tallying.{has_some}
use Rattle.pipes_minus.proofs.counts.DifferenceRuleCounts.has_answer.Goals as goal

pub returns-clause-some : goal.returns-clause-some
returns-clause-some c = has_some c.args.tally.now
