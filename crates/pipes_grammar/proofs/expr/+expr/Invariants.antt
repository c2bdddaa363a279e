use Rattle.std.proofs.Common.{◌+◌, ◌*◌}
use Rattle.pipes_grammar.proofs.expr.+expr.Given as goal

abbrev pub decreases-expr_within : goal.decreases-expr_within
decreases-expr_within l = 2 * l.left

abbrev pub decreases-not_from : goal.decreases-not_from
decreases-not_from l = 2 * l.left + 1

abbrev pub decreases-pair_from : goal.decreases-pair_from
decreases-pair_from l = 2 * l.left + 1
