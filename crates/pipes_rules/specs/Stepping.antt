-- Steps at a node of a plan, and derivations.
use Rattle.std.specs.Prelude.{◌≡◌, ◌<◌, ◌+◌, ℕ, nat_eq, Bool, true, false, List, [], ◌∷◌, Option}
use Rattle.std.specs.Prelude.{Some, None, Result, Ok, Err, if◌then◌else◌, ◌⊎◌}
use Rattle.pipes_tuple.specs.declared.value.Kind.{Kind}
use Rattle.pipes_plan.specs.declared.plan.Plan.{Plan, out-Plan}
use Rattle.pipes_plan.specs.declared.plan.Plan.TheOpen.{Plan-F}
use Rattle.pipes_plan.specs.declared.plan.Plan.TheOpen as o
use Rattle.pipes_plan.specs.declared.plan.Plan.TheVariants.{Filter, Map, Union, Join, Distinct}
use Rattle.pipes_plan.specs.declared.plan.Plan.TheVariants.{Group, Minus}
use Rattle.pipes_plan.specs.Sizes.{longest_list}
use Rattle.pipes_plan.specs.Refusals.{Checks}
use Rattle.pipes_rules.specs.declared.step.Arg.{Arg}
use Rattle.pipes_rules.specs.declared.step.Arg.TheVariants.{Nothing}
use Rattle.pipes_rules.specs.declared.step.Step.{Step}
use Rattle.pipes_rules.specs.declared.step.StepRefusal.{StepRefusal}
use Rattle.pipes_rules.specs.declared.step.StepRefusal.TheVariants.{NoSuchPlace, NoMatch, NotAPlan}
use Rattle.pipes_rules.specs.declared.step.StepRefusal.TheVariants.{Memory}
use Rattle.pipes_rules.specs.Rewriting.{rule_forward, rule_back}

-- forward a rule takes no argument
abbrev pub without_arg : Arg → Option Plan → Option Plan
without_arg Nothing form = form
without_arg _ form = None

-- what the step's rule makes of a node, in the step's direction
abbrev pub step_form : List (List Kind) → Step → Plan → Option Plan
step_form ss step node =
    if step.back then rule_back ss step.rule step.arg node
    else without_arg step.arg (rule_forward ss step.rule node)

-- ---- at the end of a path

abbrev pub or_refuse : StepRefusal → Option Plan → Result Plan StepRefusal
or_refuse why (Some plan) = Ok plan
or_refuse why None = Err why

-- the plan in its place
abbrev pub wrapped : (Plan → Plan) → Result Plan StepRefusal → Result Plan StepRefusal
wrapped wrap (Ok plan) = Ok (wrap plan)
wrapped wrap (Err why) = Err why

-- child 0 of a node with one child
abbrev pub at_only : ℕ → Result Plan StepRefusal → Result Plan StepRefusal
at_only i r = if nat_eq i 0 then r else Err NoSuchPlace

-- child 0 and child 1 of a node with two
abbrev pub at_side : ℕ → Result Plan StepRefusal → Result Plan StepRefusal
    → Result Plan StepRefusal
at_side i left right =
    if nat_eq i 0 then left
    else if nat_eq i 1 then right
    else Err NoSuchPlace

-- the node with child i rewritten
abbrev pub with_child : ℕ → (Plan → Result Plan StepRefusal) → Plan-F Plan
    → Result Plan StepRefusal
with_child i f (o.Source n) = Err NoSuchPlace
with_child i f (o.Filter p a) = at_only i (wrapped (λ x. Filter p x) (f a))
with_child i f (o.Map es a) = at_only i (wrapped (λ x. Map es x) (f a))
with_child i f (o.Union a b) = at_side i (wrapped (λ x. Union x b) (f a))
    (wrapped (λ x. Union a x) (f b))
with_child i f (o.Join k c a b) = at_side i (wrapped (λ x. Join k c x b) (f a))
    (wrapped (λ x. Join k c a x) (f b))
with_child i f (o.Distinct a) = at_only i (wrapped (λ x. Distinct x) (f a))
with_child i f (o.Group k g a) = at_only i (wrapped (λ x. Group k g x) (f a))
with_child i f (o.Minus a b) = at_side i (wrapped (λ x. Minus x b) (f a))
    (wrapped (λ x. Minus a x) (f b))

-- the plan with the node at the end of the path rewritten; the path comes before the form
abbrev pub rewritten_at : (Plan → Option Plan) → List ℕ → Plan → Result Plan StepRefusal
rewritten_at f [] plan = or_refuse NoMatch (f plan)
rewritten_at f (i ∷ path) plan = with_child i (rewritten_at f path) (out-Plan plan)

abbrev pub stepped : List (List Kind) → Step → Plan → Result Plan StepRefusal
stepped ss step plan = rewritten_at (step_form ss step) step.path plan

-- a plan with a list that is too long, which no value of the program is
abbrev pub HasLongList : Result Plan StepRefusal → Type 0
HasLongList (Ok plan) = 32 < longest_list plan
HasLongList (Err why) = ⊥

-- the rewritten plan, or why there is none
abbrev pub Rewrites : Result Plan StepRefusal → Result Plan StepRefusal → Type 0
Rewrites (Ok new) r = r ≡ Ok new
Rewrites (Err NoSuchPlace) r = r ≡ Err NoSuchPlace
Rewrites (Err NoMatch) r = r ≡ Err NoMatch
Rewrites (Err NotAPlan) r = HasLongList r
Rewrites (Err Memory) r = Unit {0}

-- ---- steps

-- the step makes this plan of the other
pub record Applies (ss : List (List Kind)) (step : Step) (plan new : Plan) : Type 0 where
  pub rewritten : stepped ss step plan ≡ Ok new
  pub checks : Checks ss new

-- what the step makes is no plan that checks
pub record MakesNoPlan (ss : List (List Kind)) (step : Step) (plan : Plan) : Type 0 where
  pub made : Plan
  pub rewritten : stepped ss step plan ≡ Ok made
  pub unchecked : Checks ss made → ⊥

-- the plan that the step makes, or the first cause why it makes none; out of memory says nothing
abbrev pub IsApplied : Result Plan StepRefusal → List (List Kind) → Step → Plan → Type 0
IsApplied (Ok new) ss step plan = Applies ss step plan new
IsApplied (Err NoSuchPlace) ss step plan = stepped ss step plan ≡ Err NoSuchPlace
IsApplied (Err NoMatch) ss step plan = stepped ss step plan ≡ Err NoMatch
IsApplied (Err NotAPlan) ss step plan = MakesNoPlan ss step plan
IsApplied (Err Memory) ss step plan = Unit {0}

-- ---- derivations

-- all steps apply, one after another, and the last plan is this one
abbrev pub Derives : List (List Kind) → Plan → List Step → Plan → Type 0
Derives ss old [] new = old ≡ new
Derives ss old (step ∷ steps) new = (mid : Plan) × Applies ss step old mid
    × Derives ss mid steps new

-- no plan that checks comes of the step
abbrev pub IsRefused : List (List Kind) → Step → Plan → Type 0
IsRefused ss step plan = (new : Plan) → Applies ss step plan new → ⊥

-- the step with this number, counted from the first one's, is the first that is refused; where none
-- is, the number is one more than the last one's, and the plan that the steps make is another
abbrev pub FailsAt : List (List Kind) → Plan → List Step → Plan → ℕ → ℕ → Type 0
FailsAt ss old [] new first number = (number ≡ first) × (old ≡ new → ⊥)
FailsAt ss old (step ∷ steps) new first number =
    ((number ≡ first) × IsRefused ss step old)
    ⊎ ((mid : Plan) × Applies ss step old mid × FailsAt ss mid steps new (first + 1) number)
