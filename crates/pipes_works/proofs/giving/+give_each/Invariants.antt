use Rattle.std.proofs.Common.{ℕ, length}
use Rattle.pipes_works.proofs.giving.+give_each.Given as goal

abbrev pub decreases-give_each : goal.decreases-give_each
decreases-give_each g l = length l.leaves.now
