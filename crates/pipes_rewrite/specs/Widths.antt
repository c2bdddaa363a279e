-- How many columns the rows of a plan have.
use Rattle.std.specs.Prelude.{ℕ, ◌+◌, List, [], length, slice_get, unwrap_or}
use Rattle.pipes_tuple.specs.declared.value.Kind.{Kind}
use Rattle.pipes_plan.specs.declared.plan.Plan.{Plan, fold-Plan}
use Rattle.pipes_plan.specs.declared.plan.Plan.TheOpen.{Plan-F, Source, Filter, Map, Union, Join}
use Rattle.pipes_plan.specs.declared.plan.Plan.TheOpen.{Distinct, Group, Minus}
use Rattle.pipes_rewrite.specs.Changes.{sum_32}

abbrev pub width_step : List (List Kind) → Plan-F ℕ → ℕ
width_step ss (Source i) = length (unwrap_or (slice_get ss i) [])
width_step ss (Filter p a) = a
width_step ss (Map es a) = length es
width_step ss (Union a b) = a
width_step ss (Join k c a b) = sum_32 a b
width_step ss (Distinct a) = a
width_step ss (Group k g a) = length k + length g
width_step ss (Minus a b) = a

-- the number of columns, over the schemas of the sources; that of a typed plan is its schema's
abbrev pub width : List (List Kind) → Plan → ℕ
width ss = fold-Plan ℕ (width_step ss)
