use Rattle.std.proofs.Common.{length}
use Rattle.pipes_derivation.proofs.print.+push_more_children.Given as goal

abbrev pub decreases-push_more_children : goal.decreases-push_more_children
decreases-push_more_children l = length l.path.now
