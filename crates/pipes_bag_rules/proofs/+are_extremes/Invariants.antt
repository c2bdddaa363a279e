use Rattle.std.proofs.Common.{length}
use Rattle.pipes_bag_rules.proofs.+are_extremes.Given as goal

abbrev pub decreases-are_extremes : goal.decreases-are_extremes
decreases-are_extremes l = length l.aggs.now
