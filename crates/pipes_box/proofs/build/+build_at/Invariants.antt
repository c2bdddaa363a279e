use Rattle.std.proofs.Common.{◌+◌}
use Rattle.pipes_plan.specs.declared.plan.Plan.{size-Plan}
use Rattle.pipes_box.proofs.build.+build_at.Given as goal

abbrev pub decreases-build_at : goal.decreases-build_at
decreases-build_at l = size-Plan l.plan.now + size-Plan l.plan.now + 1

abbrev pub decreases-build_filter : goal.decreases-build_filter
decreases-build_filter l = size-Plan l.plan.now + size-Plan l.plan.now

abbrev pub decreases-build_map : goal.decreases-build_map
decreases-build_map l = size-Plan l.plan.now + size-Plan l.plan.now

abbrev pub decreases-build_union : goal.decreases-build_union
decreases-build_union l = size-Plan l.plan.now + size-Plan l.plan.now

abbrev pub decreases-build_join : goal.decreases-build_join
decreases-build_join l = size-Plan l.plan.now + size-Plan l.plan.now

abbrev pub decreases-build_distinct : goal.decreases-build_distinct
decreases-build_distinct l = size-Plan l.plan.now + size-Plan l.plan.now

abbrev pub decreases-build_group : goal.decreases-build_group
decreases-build_group l = size-Plan l.plan.now + size-Plan l.plan.now

abbrev pub decreases-build_minus : goal.decreases-build_minus
decreases-build_minus l = size-Plan l.plan.now + size-Plan l.plan.now
