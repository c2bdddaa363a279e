use Rattle.std.proofs.Common.{length}
use Rattle.pipes_print.proofs.literals.+look_at_exprs.Given as goal

abbrev pub decreases-look_at_exprs : goal.decreases-look_at_exprs
decreases-look_at_exprs l = length l.exprs.now
