use Rattle.std.proofs.Common.{refl}
use Rattle.pipes_minus.proofs.Tallying.{counts_none}
use Rattle.pipes_minus.proofs.counts.DifferenceRuleCounts.none.Goals as goal

pub returns : goal.returns
returns c = λ k bags none. counts_none _ k bags refl refl none
