-- The value and the kind of each node of an expression, as equations.
use Rattle.std.proofs.Common.{◌≡◌, ℕ, List, rules, Some, slice_get}
use Rattle.pipes_tuple.specs.declared.value.Value.{Value}
use Rattle.pipes_tuple.specs.declared.value.Kind.{Kind}
use Rattle.pipes_tuple.specs.Kinds.{kind_of}
use Rattle.pipes_expr.specs.declared.op.Op.{Op}
use Rattle.pipes_expr.specs.declared.expr.Expr.{Expr, the_lemmas}
use Rattle.pipes_expr.specs.declared.expr.Expr.TheVariants.{Col, Literal, Binary, Not}
use Rattle.pipes_expr.specs.ExprValue.{Row, value_of, column, op_value, not_value}
use Rattle.pipes_expr.specs.ExprKind.{expr_kind, both, only, op_kind, not_kind}

pub value_of-Col : (i : ℕ) (row : Row) → value_of (Col i) row ≡ column row i
value_of-Col i row = search (rules, the_lemmas)

pub expr_kind-Col : (i : ℕ) (s : List Kind) → expr_kind (Col i) s ≡ slice_get s i
expr_kind-Col i s = search (rules, the_lemmas)

pub value_of-Literal : (v : Value) (row : Row) → value_of (Literal v) row ≡ v
value_of-Literal v row = search (rules, the_lemmas)

pub expr_kind-Literal : (v : Value) (s : List Kind) → expr_kind (Literal v) s ≡ Some (kind_of v)
expr_kind-Literal v s = search (rules, the_lemmas)

pub value_of-Binary : (o : Op) (a b : Expr) (row : Row)
    → value_of (Binary o a b) row ≡ op_value o (value_of a row) (value_of b row)
value_of-Binary o a b row = search (rules, the_lemmas)

pub expr_kind-Binary : (o : Op) (a b : Expr) (s : List Kind)
    → expr_kind (Binary o a b) s ≡ both (op_kind o) (expr_kind a s) (expr_kind b s)
expr_kind-Binary o a b s = search (rules, the_lemmas)

pub value_of-Not : (a : Expr) (row : Row) → value_of (Not a) row ≡ not_value (value_of a row)
value_of-Not a row = search (rules, the_lemmas)

pub expr_kind-Not : (a : Expr) (s : List Kind)
    → expr_kind (Not a) s ≡ only not_kind (expr_kind a s)
expr_kind-Not a s = search (rules, the_lemmas)
