-- The sources that a plan reads.
use Rattle.std.specs.Prelude.{◌≡◌, ℕ, eqb, Bool, ◌||◌}
use Rattle.pipes_plan.specs.declared.plan.Plan.{Plan, fold-Plan}
use Rattle.pipes_plan.specs.declared.plan.Plan.TheOpen.{Plan-F, Source, Filter, Map, Union, Join}
use Rattle.pipes_plan.specs.declared.plan.Plan.TheOpen.{Distinct, Group, Minus}

abbrev pub reads_step : ℕ → Plan-F Bool → Bool
reads_step s (Source i) = eqb i s
reads_step s (Filter p a) = a
reads_step s (Map es a) = a
reads_step s (Union a b) = a || b
reads_step s (Join k c a b) = a || b
reads_step s (Distinct a) = a
reads_step s (Group k g a) = a
reads_step s (Minus a b) = a || b

-- the plan has a leaf of the source with this number
abbrev pub reads : ℕ → Plan → Bool
reads s = fold-Plan Bool (reads_step s)

-- both read the same sources; how often, and in which order, is left open
abbrev pub SameSources : Plan → Plan → Type 0
SameSources old new = (s : ℕ) → reads s old ≡ reads s new
