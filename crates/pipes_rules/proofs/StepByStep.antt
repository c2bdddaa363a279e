-- A derivation from its first step on.
use Rattle.std.proofs.Common.{◌≡◌, ℕ, ◌+◌, List, [], ◌∷◌, length, refl, sym, subst, arith}
use Rattle.std.proofs.Common.{Result, Ok, Err, IfOk, inl, inr}
use Rattle.pipes_tuple.specs.declared.value.Kind.{Kind}
use Rattle.pipes_plan.specs.declared.plan.Plan.{Plan}
use Rattle.pipes_rewrite.specs.SameMeaning.{SameMeaning}
use Rattle.pipes_rule_laws.proofs.Congruent.{meaning-equal, meaning-trans}
use Rattle.pipes_rules.specs.declared.step.Step.{Step}
use Rattle.pipes_rules.specs.declared.step.StepRefusal.{StepRefusal}
use Rattle.pipes_rules.specs.declared.derivation.DeriveRefusal.{DeriveRefusal}
use Rattle.pipes_rules.specs.declared.derivation.DeriveRefusal.TheVariants.{NotDerived, Memory}
use Rattle.pipes_rules.specs.Stepping.{stepped, Applies, MakesNoPlan, IsRefused, Derives, FailsAt}
use Rattle.pipes_rules.specs.Deriving.{IsDerived}
use Rattle.pipes_rules.proofs.Applying.{place_refused, plan_refused}

module _ (ss : List (List Kind)) (old new : Plan) (number : ℕ) where
  -- ---- no step is left

  pub derived_end : (steps : List Step) → length steps ≡ 0 → old ≡ new → Derives ss old steps new
  derived_end [] h e = e
  derived_end (step ∷ steps) h e = absurd (omega (arith, h))

  pub fails_end : (steps : List Step) → length steps ≡ 0 → (old ≡ new → ⊥)
      → FailsAt ss old steps new number number
  fails_end [] h e = (refl, e)
  fails_end (step ∷ steps) h e = absurd (omega (arith, h))

  -- ---- the first step

  module _ (step : Step) (steps rest : List Step) (is : steps ≡ step ∷ rest) where
    derived_from : (result : Result (Unit {0}) DeriveRefusal) (mid : Plan)
        → Applies ss step old mid → IsDerived result ss mid rest new (number + 1)
        → IsDerived result ss old (step ∷ rest) new number
    derived_from (Ok done) mid a h = (mid, a, h)
    derived_from (Err (NotDerived n)) mid a h = inr (mid, a, h)
    derived_from (Err Memory) mid a h = tt

    pub derived_more : (result : Result (Unit {0}) DeriveRefusal) (mid : Plan)
        → Applies ss step old mid → IsDerived result ss mid rest new (number + 1)
        → IsDerived result ss old steps new number
    derived_more result mid a h = subst (λ (z : List Step). IsDerived result ss old z new number)
        (sym is) (derived_from result mid a h)

    fails_at_once : IsRefused ss step old → FailsAt ss old steps new number number
    fails_at_once r = subst (λ (z : List Step). FailsAt ss old z new number number) (sym is)
        (inl (refl, r))

    pub place_fails : (why : StepRefusal) → stepped ss step old ≡ Err why
        → FailsAt ss old steps new number number
    place_fails why h = fails_at_once (place_refused ss step old why h)

    pub plan_fails : MakesNoPlan ss step old → FailsAt ss old steps new number number
    plan_fails h = fails_at_once (plan_refused ss step old h)

  pub sound_end : old ≡ new → SameMeaning ss old new
  sound_end e = meaning-equal ss old new e

  pub sound_more : (result : Result (Unit {0}) DeriveRefusal) (mid : Plan) → SameMeaning ss old mid
      → IfOk result (λ done. SameMeaning ss mid new) → IfOk result (λ done. SameMeaning ss old new)
  sound_more (Ok done) mid s r = meaning-trans ss old mid new s r
  sound_more (Err why) mid s r = tt

pub ruleset step_by_step = (
  derived_end,
  fails_end,
  derived_more,
  place_fails,
  plan_fails,
  sound_end,
  sound_more,
)
