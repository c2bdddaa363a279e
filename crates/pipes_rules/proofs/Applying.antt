-- A step that was made or refused.
use Rattle.std.proofs.Common.{◌≡◌, ℕ, ◌+◌, ◌<◌, ◌≤◌, List, [], ◌∷◌, refl, sym, ap, ◌∙◌, subst}
use Rattle.std.proofs.Common.{arith}
use Rattle.std.proofs.Common.{Option, Some, None, Result, Ok, Err, inl, inr}
use Rattle.pipes_tuple.specs.declared.value.Kind.{Kind}
use Rattle.pipes_expr.specs.ExprWhys.{first_of}
use Rattle.pipes_plan.specs.declared.fault.TypeRefusal.{TypeRefusal}
use Rattle.pipes_plan.specs.declared.plan.Plan.{Plan}
use Rattle.pipes_plan.specs.Sizes.{longest_list}
use Rattle.pipes_plan.specs.PlanKinds.{plan_kinds, IsTyped}
use Rattle.pipes_plan.specs.Refusals.{Checks, refusals}
use Rattle.pipes_rewrite.specs.SameMeaning.{SameMeaning}
use Rattle.pipes_rules.specs.declared.step.Step.{Step}
use Rattle.pipes_rules.specs.declared.step.StepRefusal.{StepRefusal}
use Rattle.pipes_rules.specs.declared.step.StepRefusal.TheVariants.{NoSuchPlace, NoMatch, NotAPlan}
use Rattle.pipes_rules.specs.declared.step.StepRefusal.TheVariants.{Memory}
use Rattle.pipes_rules.specs.Stepping.{stepped, HasLongList, Rewrites, Applies, MakesNoPlan}
use Rattle.pipes_rules.specs.Stepping.{IsApplied, IsRefused}
use Rattle.pipes_rules.proofs.StepsSound.{stepped_sound}

same_plan : (x y : Plan) → ◌≡◌ {A = Result Plan StepRefusal} (Ok x) (Ok y) → x ≡ y
same_plan x y e = cc

pub checked_typed : (ss : List (List Kind)) (new : Plan) (s : List Kind)
    → plan_kinds new ss ≡ Some s → IsTyped new ss
checked_typed ss new s e = record { schema = s; is = e }

module _ (ss : List (List Kind)) (step : Step) (plan : Plan) where
  no_plan : (r : Result Plan StepRefusal) → r ≡ stepped ss step plan → HasLongList r
      → MakesNoPlan ss step plan
  no_plan (Ok made) e h = record {
    made = made;
    rewritten = sym e;
    unchecked = λ c. absurd (omega (arith, h, c.lists));
  }
  no_plan (Err why) e h = absurd h

  -- why the node isn't rewritten is why the step isn't made
  pub refused_applied : (why : StepRefusal) → Rewrites (Err why) (stepped ss step plan)
      → IsApplied (Err why) ss step plan
  refused_applied NoSuchPlace h = h
  refused_applied NoMatch h = h
  refused_applied NotAPlan h = no_plan (stepped ss step plan) refl h
  refused_applied Memory h = tt

  empty_first : (xs : List TypeRefusal) (x : TypeRefusal) → xs ≡ [] → first_of xs ≡ Some x → ⊥
  empty_first [] x e h = cc
  empty_first (y ∷ xs) x e h = cc

  pub unchecked_applied : (new : Plan) (refusal : TypeRefusal) → stepped ss step plan ≡ Ok new
      → first_of (refusals ss new) ≡ Some refusal → IsApplied (Err NotAPlan) ss step plan
  unchecked_applied new refusal e h = record {
    made = new;
    rewritten = e;
    unchecked = λ c. empty_first (refusals ss new) refusal c.unrefused h;
  }

  pub checked_applied : (new : Plan) → stepped ss step plan ≡ Ok new → Checks ss new
      → Applies ss step plan new
  checked_applied new e c = record { rewritten = e; checks = c }

  pub checked_sound : (new : Plan) (s : List Kind) → IsTyped plan ss → stepped ss step plan ≡ Ok new
      → plan_kinds new ss ≡ Some s → SameMeaning ss plan new
  checked_sound new s t e u = stepped_sound ss step plan new e t (checked_typed ss new s u)

  -- a step that is refused makes no plan that checks
  pub place_refused : (w : StepRefusal) → stepped ss step plan ≡ Err w → IsRefused ss step plan
  place_refused w e new a = other new w (sym a.rewritten ∙ e) where
    other : (new : Plan) (w : StepRefusal) → Ok new ≡ Err w → ⊥
    other new w h = cc

  pub plan_refused : MakesNoPlan ss step plan → IsRefused ss step plan
  plan_refused h new a = h.unchecked (subst (Checks ss)
      (same_plan new h.made (sym a.rewritten ∙ h.rewritten)) a.checks)

pub ruleset applied = (
  refused_applied,
  unchecked_applied,
  checked_applied,
  checked_typed,
  checked_sound,
)
