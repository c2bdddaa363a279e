-- The limits of what is written in a text, as limits of its value: 32 levels of a plan and of each
-- expression, 32 entries of a list.
use Rattle.std.specs.Prelude.{◌≤◌, ℕ, max, List, [], ◌∷◌, length}
use Rattle.pipes_token.specs.declared.token.TokenKind.{TokenKind}
use Rattle.pipes_expr.specs.declared.expr.Expr.{Expr}
use Rattle.pipes_plan.specs.declared.plan.Plan.{Plan, fold-Plan}
use Rattle.pipes_plan.specs.declared.plan.Plan.TheOpen.{Plan-F, Source, Filter, Map, Union, Join}
use Rattle.pipes_plan.specs.declared.plan.Plan.TheOpen.{Distinct, Group, Minus}
use Rattle.pipes_expr.specs.ExprSize.{expr_depth}
use Rattle.pipes_plan.specs.Sizes.{plan_depth}
pub use Rattle.pipes_plan.specs.Sizes.{lists_step, longest_list}
use Rattle.pipes_grammar.specs.Grammar.{IsExpr, IsFilled, IsPlan}

-- the depth of the deepest of these expressions
abbrev pub deepest : List Expr → ℕ
deepest [] = 0
deepest (e ∷ es) = max (expr_depth e) (deepest es)

abbrev pub exprs_step : Plan-F ℕ → ℕ
exprs_step (Source i) = 0
exprs_step (Filter p a) = max (expr_depth p) a
exprs_step (Map es a) = max (deepest es) a
exprs_step (Union a b) = max a b
exprs_step (Join k c a b) = max (expr_depth c) (max a b)
exprs_step (Distinct a) = a
exprs_step (Group k g a) = a
exprs_step (Minus a b) = max a b

-- the depth of the deepest expression in a plan
abbrev pub deepest_expr : Plan → ℕ
deepest_expr = fold-Plan ℕ exprs_step

-- an expression within the limits
pub record IsExprText (e : Expr) (ks : List TokenKind) : Type 0 where
  pub spells : IsExpr e ks
  pub depth : expr_depth e ≤ 32

-- a list of expressions within the limits
pub record AreExprsText (es : List Expr) (ks : List TokenKind) : Type 0 where
  pub spells : IsFilled IsExpr es ks
  pub depth : deepest es ≤ 32
  pub entries : length es ≤ 32

-- a plan within the limits, over declared sources with these names
pub record IsPlanText (names : List (List ℕ)) (p : Plan) (ks : List TokenKind) : Type 0 where
  pub spells : IsPlan names p ks
  pub depth : plan_depth p ≤ 32
  pub exprs : deepest_expr p ≤ 32
  pub lists : longest_list p ≤ 32
