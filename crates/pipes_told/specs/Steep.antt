-- How steep a plan is: the most groups and differences on a path from its root to a leaf. Of all
-- nodes these alone may keep their heartbeat below those of what they take.
use Rattle.std.specs.Prelude.{ℕ, ◌+◌, max}
use Rattle.pipes_plan.specs.declared.plan.Plan.{Plan, fold-Plan}
use Rattle.pipes_plan.specs.declared.plan.Plan.TheOpen.{Plan-F, Source, Filter, Map, Union, Join}
use Rattle.pipes_plan.specs.declared.plan.Plan.TheOpen.{Distinct, Group, Minus}

abbrev pub steep_step : Plan-F ℕ → ℕ
steep_step (Source i) = 0
steep_step (Filter p a) = a
steep_step (Map es a) = a
steep_step (Union a b) = max a b
steep_step (Join k c a b) = max a b
steep_step (Distinct a) = a
steep_step (Group k g a) = a + 1
steep_step (Minus a b) = max a b + 1

abbrev pub steep : Plan → ℕ
steep = fold-Plan ℕ steep_step
