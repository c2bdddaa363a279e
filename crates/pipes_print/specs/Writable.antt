-- The expressions and plans that some text has, by their structure.
use Rattle.std.specs.Prelude.{◌≡◌, ◌≤◌, ◌<◌, ℕ, List, [], ◌∷◌, ◌++◌, length}
use Rattle.std.specs.List.{flat_map}
use Rattle.pipes_tuple.specs.declared.value.Value.{Value}
use Rattle.pipes_tuple.specs.declared.value.Kind.{Kind}
use Rattle.pipes_tuple.specs.Limits.{IsValue}
use Rattle.pipes_expr.specs.declared.op.Op.{Op}
use Rattle.pipes_expr.specs.declared.expr.Expr.{Expr, fold-Expr}
use Rattle.pipes_expr.specs.declared.expr.Expr.TheOpen.{Expr-F, Col, Literal, Binary, Not}
use Rattle.pipes_expr.specs.declared.expr.Expr.TheVariants as expr
use Rattle.pipes_expr.specs.ExprSize.{expr_depth}
use Rattle.pipes_relation.specs.declared.lists.Pair.{Pair}
use Rattle.pipes_relation.specs.declared.lists.Agg.{Agg}
use Rattle.pipes_relation.specs.declared.lists.Agg.TheVariants as agg
use Rattle.pipes_plan.specs.declared.plan.Plan.{Plan, fold-Plan}
use Rattle.pipes_plan.specs.declared.plan.Plan.TheOpen.{Plan-F, Source, Filter, Map, Union, Join}
use Rattle.pipes_plan.specs.declared.plan.Plan.TheOpen.{Distinct, Group, Minus}
use Rattle.pipes_plan.specs.declared.plan.Plan.TheVariants as plan
use Rattle.pipes_plan.specs.PlanKinds.{IsTyped}
use Rattle.pipes_plan.specs.Refusals.{Checks}
use Rattle.pipes_plan.specs.Sizes.{plan_depth}
use Rattle.pipes_reader.specs.Names.{AreNew, IsSourceName}
use Rattle.pipes_grammar.specs.Limits.{deepest, deepest_expr, longest_list}

-- this holds of each
abbrev pub Each : {A : Type 0} → (A → Type 0) → List A → Type 0
Each P [] = Unit {0}
Each P (x ∷ xs) = P x × Each P xs

-- ---- expressions

-- columns 0 to 31, and literals as values are
pub data HasExprNodes : Expr → Type 0 where
  column : (i : ℕ) → i < 32 → HasExprNodes (expr.Col i)
  literal : (v : Value) → IsValue v → HasExprNodes (expr.Literal v)
  binary : (op : Op) (d e : Expr) → HasExprNodes d → HasExprNodes e
      → HasExprNodes (expr.Binary op d e)
  negated : (e : Expr) → HasExprNodes e → HasExprNodes (expr.Not e)

pub record IsWritableExpr (e : Expr) : Type 0 where
  pub nodes : HasExprNodes e
  pub depth : expr_depth e ≤ 32

-- one or more
pub record AreWritableExprs (es : List Expr) : Type 0 where
  pub some : 1 ≤ length es
  pub nodes : Each HasExprNodes es
  pub depth : deepest es ≤ 32
  pub entries : length es ≤ 32

-- ---- plans

abbrev pub IsColumnNumber : ℕ → Type 0
IsColumnNumber i = i < 32

abbrev pub HasPairColumns : Pair → Type 0
HasPairColumns pair = IsColumnNumber pair.left × IsColumnNumber pair.right

abbrev pub HasAggColumn : Agg → Type 0
HasAggColumn agg.Count = Unit {0}
HasAggColumn (agg.Sum i) = IsColumnNumber i
HasAggColumn (agg.Min i) = IsColumnNumber i
HasAggColumn (agg.Max i) = IsColumnNumber i
HasAggColumn (agg.Avg i) = IsColumnNumber i

-- over so many sources
pub data HasPlanNodes (sources : ℕ) : Plan → Type 0 where
  source : (i : ℕ) → i < sources → HasPlanNodes sources (plan.Source i)
  filter : (c : Expr) (a : Plan) → HasExprNodes c → HasPlanNodes sources a
      → HasPlanNodes sources (plan.Filter c a)
  mapped : (es : List Expr) (a : Plan) → 1 ≤ length es → Each HasExprNodes es
      → HasPlanNodes sources a → HasPlanNodes sources (plan.Map es a)
  union : (a b : Plan) → HasPlanNodes sources a → HasPlanNodes sources b
      → HasPlanNodes sources (plan.Union a b)
  join : (pairs : List Pair) (c : Expr) (a b : Plan) → Each HasPairColumns pairs → HasExprNodes c
      → HasPlanNodes sources a → HasPlanNodes sources b
      → HasPlanNodes sources (plan.Join pairs c a b)
  distinct : (a : Plan) → HasPlanNodes sources a → HasPlanNodes sources (plan.Distinct a)
  group : (columns : List ℕ) (aggs : List Agg) (a : Plan) → Each IsColumnNumber columns
      → Each HasAggColumn aggs → HasPlanNodes sources a
      → HasPlanNodes sources (plan.Group columns aggs a)
  minus : (a b : Plan) → HasPlanNodes sources a → HasPlanNodes sources b
      → HasPlanNodes sources (plan.Minus a b)

pub record IsWritablePlan (sources : ℕ) (p : Plan) : Type 0 where
  pub nodes : HasPlanNodes sources p
  pub depth : plan_depth p ≤ 32
  pub exprs : deepest_expr p ≤ 32
  pub lists : longest_list p ≤ 32

-- ---- literals

abbrev pub literals_step : Expr-F (List Value) → List Value
literals_step (Col i) = []
literals_step (Literal v) = v ∷ []
literals_step (Binary o a b) = a ++ b
literals_step (Not a) = a

-- the literals of an expression
abbrev pub literals_of : Expr → List Value
literals_of = fold-Expr (List Value) literals_step

abbrev pub plan_literals_step : Plan-F (List Value) → List Value
plan_literals_step (Source i) = []
plan_literals_step (Filter c a) = literals_of c ++ a
plan_literals_step (Map es a) = flat_map literals_of es ++ a
plan_literals_step (Union a b) = a ++ b
plan_literals_step (Join k c a b) = literals_of c ++ (a ++ b)
plan_literals_step (Distinct a) = a
plan_literals_step (Group k g a) = a
plan_literals_step (Minus a b) = a ++ b

-- the literals of a plan
abbrev pub plan_literals : Plan → List Value
plan_literals = fold-Plan (List Value) plan_literals_step

-- ---- plans that check

-- The plan checks over so many sources of at most 32 columns each, and its literals are values.
pub record IsCheckedPlan (sources : ℕ) (p : Plan) : Type 0 where
  pub schemas : List (List Kind)
  pub count : length schemas ≡ sources
  pub widths : Each (λ (s : List Kind). length s ≤ 32) schemas
  pub typed : IsTyped p schemas
  pub checks : Checks schemas p
  pub literals : Each IsValue (plan_literals p)

-- ---- names of sources

-- each of them declared once
pub record AreSourceNames (names : List (List ℕ)) : Type 0 where
  pub words : Each IsSourceName names
  pub once : AreNew [] names
