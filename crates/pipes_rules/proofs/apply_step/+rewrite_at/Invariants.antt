use Rattle.std.proofs.Common.{◌+◌, ◌*◌, length}
use Rattle.pipes_rules.proofs.apply_step.+rewrite_at.Given as goal

abbrev pub decreases-rewrite_at : goal.decreases-rewrite_at
decreases-rewrite_at l = 3 * length l.path.now

abbrev pub decreases-at_child : goal.decreases-at_child
decreases-at_child l = 3 * length l.rest.now + 2

abbrev pub decreases-in_filter : goal.decreases-in_filter
decreases-in_filter l = 3 * length l.rest.now + 1

abbrev pub decreases-in_map : goal.decreases-in_map
decreases-in_map l = 3 * length l.rest.now + 1

abbrev pub decreases-in_distinct : goal.decreases-in_distinct
decreases-in_distinct l = 3 * length l.rest.now + 1

abbrev pub decreases-in_group : goal.decreases-in_group
decreases-in_group l = 3 * length l.rest.now + 1

abbrev pub decreases-in_union : goal.decreases-in_union
decreases-in_union l = 3 * length l.rest.now + 1

abbrev pub decreases-in_join : goal.decreases-in_join
decreases-in_join l = 3 * length l.rest.now + 1

abbrev pub decreases-in_minus : goal.decreases-in_minus
decreases-in_minus l = 3 * length l.rest.now + 1
