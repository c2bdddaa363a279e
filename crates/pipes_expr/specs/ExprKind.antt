-- The kind of an expression over the kinds of columns.
use Rattle.std.specs.Prelude.{◌≡◌, List, slice_get, Option, Some, None}
use Rattle.pipes_tuple.specs.declared.value.Kind.{Kind}
use Rattle.pipes_tuple.specs.declared.value.Kind.TheVariants as kind
use Rattle.pipes_tuple.specs.Kinds.{kind_of}
use Rattle.pipes_expr.specs.declared.op.Op.{Op}
use Rattle.pipes_expr.specs.declared.op.Op.TheVariants.{Add, Sub, Mul, Eq, Lt, Le, And, Or}
use Rattle.pipes_expr.specs.declared.expr.Expr.{Expr, fold-Expr}
use Rattle.pipes_expr.specs.declared.expr.Expr.TheOpen as e

-- two integers, of which an operator makes one
abbrev pub of_ints : Kind → Kind → Option Kind
of_ints kind.Int kind.Int = Some kind.Int
of_ints _ _ = None

-- a comparison, of two values of one kind
abbrev pub of_alike : Kind → Kind → Option Kind
of_alike kind.Int kind.Int = Some kind.Flag
of_alike kind.Text kind.Text = Some kind.Flag
of_alike kind.Flag kind.Flag = Some kind.Flag
of_alike _ _ = None

-- two flags, of which an operator makes one
abbrev pub of_flags : Kind → Kind → Option Kind
of_flags kind.Flag kind.Flag = Some kind.Flag
of_flags _ _ = None

-- the kind of what an operator makes of sides of these kinds, if they suit it
abbrev pub op_kind : Op → Kind → Kind → Option Kind
op_kind Add = of_ints
op_kind Sub = of_ints
op_kind Mul = of_ints
op_kind Eq = of_alike
op_kind Lt = of_alike
op_kind Le = of_alike
op_kind And = of_flags
op_kind Or = of_flags

-- only a flag is negated
abbrev pub not_kind : Kind → Option Kind
not_kind kind.Flag = Some kind.Flag
not_kind _ = None

-- the kind of a node with two sides, where both have kinds that suit it
abbrev pub both : (Kind → Kind → Option Kind) → Option Kind → Option Kind → Option Kind
both f (Some j) (Some k) = f j k
both f _ _ = None

abbrev pub only : (Kind → Option Kind) → Option Kind → Option Kind
only f (Some k) = f k
only f None = None

-- the kind of a node, once each child has one
abbrev pub kind_step : e.Expr-F (List Kind → Option Kind) → List Kind → Option Kind
kind_step (e.Col i) kinds = slice_get kinds i
kind_step (e.Literal v) kinds = Some (kind_of v)
kind_step (e.Binary o a b) kinds = both (op_kind o) (a kinds) (b kinds)
kind_step (e.Not a) kinds = only not_kind (a kinds)

-- the kind of an expression; none where it isn't typed
abbrev pub expr_kind : Expr → List Kind → Option Kind
expr_kind = fold-Expr (List Kind → Option Kind) kind_step

abbrev pub kind_in : List Kind → Expr → Option Kind
kind_in kinds expr = expr_kind expr kinds

-- the expression has a kind
pub record IsTypedExpr (expr : Expr) (kinds : List Kind) : Type 0 where
  pub kind : Kind
  pub is : expr_kind expr kinds ≡ Some kind
