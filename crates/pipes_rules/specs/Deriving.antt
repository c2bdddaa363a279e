-- What a derivation answers.
use Rattle.std.specs.Prelude.{ℕ, List, Result, Ok, Err}
use Rattle.pipes_tuple.specs.declared.value.Kind.{Kind}
use Rattle.pipes_plan.specs.declared.plan.Plan.{Plan}
use Rattle.pipes_rules.specs.declared.step.Step.{Step}
use Rattle.pipes_rules.specs.declared.derivation.DeriveRefusal.{DeriveRefusal}
use Rattle.pipes_rules.specs.declared.derivation.DeriveRefusal.TheVariants.{NotDerived, Memory}
use Rattle.pipes_rules.specs.Stepping.{Derives, FailsAt}

-- the steps derive the new plan, or they fail at this number; out of memory says nothing
abbrev pub IsDerived : Result (Unit {0}) DeriveRefusal → List (List Kind) → Plan → List Step → Plan
    → ℕ → Type 0
IsDerived (Ok done) ss old steps new first = Derives ss old steps new
IsDerived (Err (NotDerived number)) ss old steps new first = FailsAt ss old steps new first number
IsDerived (Err Memory) ss old steps new first = Unit {0}
