-- Induction over an expression.
use Rattle.std.proofs.Common.{ℕ}
use Rattle.pipes_tuple.specs.declared.value.Value.{Value}
use Rattle.pipes_expr.specs.declared.op.Op.{Op}
use Rattle.pipes_expr.specs.declared.expr.Expr.{Expr, end_of-Expr, more_of-Expr}
use Rattle.pipes_expr.specs.declared.expr.Expr.TheVariants.{Col, Literal, Binary, Not, Binary'}
use Rattle.pipes_expr.specs.declared.expr.Expr.TheVariants.{Not'}

-- what has to be shown of each node, its children having it
pub record Cases (P : Expr → Type 0) : Type 0 where
  pub col : (i : ℕ) → P (Col i)
  pub literal : (v : Value) → P (Literal v)
  pub binary : (o : Op) (a b : Expr) → P a → P b → P (Binary o a b)
  pub not : (a : Expr) → P a → P (Not a)

pub induct : (P : Expr → Type 0) → Cases P → (e : Expr) → P e
unfolding Rattle.pipes_expr.specs.declared.expr.Expr.TheBlock.shape-the_row-Expr-0
    Rattle.pipes_expr.specs.declared.expr.Expr.TheBlock.hidden-the_row-Expr-0
    denote.Hole.Carrier.hidden
induct P c (Col i) = c.col i
induct P c (Literal v) = c.literal v
induct P c (Binary' o _ (more_of-Expr a end_of-Expr) _ (more_of-Expr b end_of-Expr)) =
    c.binary o a b (induct P c a) (induct P c b)
induct P c (Not' _ (more_of-Expr a end_of-Expr)) = c.not a (induct P c a)
