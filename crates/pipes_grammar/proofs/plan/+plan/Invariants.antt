use Rattle.std.proofs.Common.{◌+◌, ◌*◌}
use Rattle.pipes_grammar.proofs.plan.+plan.Given as goal

abbrev pub decreases-plan_within : goal.decreases-plan_within
decreases-plan_within l = 4 * l.left

abbrev pub decreases-one_from : goal.decreases-one_from
decreases-one_from l = 4 * l.left + 1

abbrev pub decreases-two_from : goal.decreases-two_from
decreases-two_from l = 4 * l.left + 1

abbrev pub decreases-filter_from : goal.decreases-filter_from
decreases-filter_from l = 4 * l.left + 2

abbrev pub decreases-map_from : goal.decreases-map_from
decreases-map_from l = 4 * l.left + 2

abbrev pub decreases-union_from : goal.decreases-union_from
decreases-union_from l = 4 * l.left + 2

abbrev pub decreases-join_from : goal.decreases-join_from
decreases-join_from l = 4 * l.left + 2

abbrev pub decreases-distinct_from : goal.decreases-distinct_from
decreases-distinct_from l = 4 * l.left + 2

abbrev pub decreases-group_from : goal.decreases-group_from
decreases-group_from l = 4 * l.left + 2

abbrev pub decreases-minus_from : goal.decreases-minus_from
decreases-minus_from l = 4 * l.left + 2
