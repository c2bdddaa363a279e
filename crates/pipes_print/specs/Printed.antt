-- What is printed is a text of the value.
use Rattle.std.specs.Prelude.{◌≡◌, ℕ, List, [], ◌∷◌}
use Rattle.pipes_token.specs.declared.token.TokenKind.{TokenKind}
use Rattle.pipes_token.specs.Writing.{Writes, WritesFreely, IsSpelled}
use Rattle.pipes_expr.specs.declared.expr.Expr.{Expr}
use Rattle.pipes_plan.specs.declared.plan.Plan.{Plan}
use Rattle.pipes_grammar.specs.Limits.{IsExprText, AreExprsText, IsPlanText}
use Rattle.pipes_print.specs.ExprText.{expr_text, list_text}
use Rattle.pipes_print.specs.PlanText.{plan_text}

-- each is the kind of a token that some bytes spell
abbrev pub AreSpelled : List TokenKind → Type 0
AreSpelled [] = Unit {0}
AreSpelled (kind ∷ kinds) = IsSpelled kind × AreSpelled kinds

-- Wherever the expression's text is written, its tokens are a sentence of the expression.
pub record ExprPrinted (e : Expr) : Type 0 where
  pub kinds : List TokenKind
  pub is : IsExprText e kinds
  pub writes : Writes kinds (expr_text e)

-- the same of a list in brackets
pub record ExprsPrinted (es : List Expr) : Type 0 where
  pub kinds : List TokenKind
  pub are : AreExprsText es kinds
  pub writes : Writes kinds (list_text expr_text es)

-- the same of a plan
pub record PlanPrinted (names : List (List ℕ)) (p : Plan) : Type 0 where
  pub kinds : List TokenKind
  pub is : IsPlanText names p kinds
  pub writes : Writes kinds (plan_text names p)
