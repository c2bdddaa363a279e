-- Plans that mean the same.
use Rattle.std.specs.Prelude.{◌≡◌, List}
use Rattle.pipes_tuple.specs.declared.value.Kind.{Kind}
use Rattle.pipes_tuple.specs.Bag.{SameBag}
use Rattle.pipes_expr.specs.ExprValue.{Row}
use Rattle.pipes_plan.specs.declared.plan.Plan.{Plan}
use Rattle.pipes_plan.specs.Algebra.{alg}
use Rattle.pipes_plan.specs.PlanKinds.{plan_kinds, IsTyped, BagsFit}

-- the same schema and, on all bags that fit the sources, answers that are equal as bags
pub record SameMeaning (schemas : List (List Kind)) (old new : Plan) : Type 0 where
  pub kinds : plan_kinds old schemas ≡ plan_kinds new schemas
  pub answers : (bags : List (List Row)) → BagsFit bags schemas
      → SameBag (alg old bags) (alg new bags)

-- where both are typed, they mean the same
abbrev pub Alike : List (List Kind) → Plan → Plan → Type 0
Alike schemas old new = IsTyped old schemas → IsTyped new schemas → SameMeaning schemas old new
