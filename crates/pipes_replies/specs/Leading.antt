-- What derivations are to lead to, and what they come to from a plan.
use Rattle.std.specs.Prelude.{ℕ, List, Option, Some, None}
use Rattle.pipes_tuple.specs.declared.value.Kind.{Kind}
use Rattle.pipes_plan.specs.declared.plan.Plan.{Plan}
use Rattle.pipes_rules.specs.Stepping.{Derives, FailsAt}
use Rattle.pipes_derivation.specs.declared.derivation.Derivation.{Derivation}

-- the plan that it names
abbrev pub target : Derivation → Plan
target d = d.plan

-- its steps derive that plan, or fail at this number, the first one's being 1
abbrev pub ComesTo : List (List Kind) → Plan → Derivation → Option ℕ → Type 0
ComesTo schemas plan d None = Derives schemas plan d.steps d.plan
ComesTo schemas plan d (Some number) = FailsAt schemas plan d.steps d.plan 1 number
