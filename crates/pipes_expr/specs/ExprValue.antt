-- The value of an expression on a row.
use Rattle.std.specs.Prelude.{ℕ, ℤ, ◌+ℤ◌, ◌-ℤ◌, ◌*ℤ◌, Bool, false, not, ◌&&◌, ◌||◌, List, slice_get}
use Rattle.std.specs.Prelude.{unwrap_or}
use Rattle.std.specs.Int.{saturate_signed, w64}
use Rattle.std.specs.Ordering.{is_lt, is_le}
use Rattle.pipes_tuple.specs.declared.value.Value.{Value}
use Rattle.pipes_tuple.specs.declared.value.Value.TheVariants as value
use Rattle.pipes_tuple.specs.Equal.{value_eq}
use Rattle.pipes_tuple.specs.Order.{value_cmp}
use Rattle.pipes_expr.specs.declared.op.Op.{Op}
use Rattle.pipes_expr.specs.declared.op.Op.TheVariants as op
use Rattle.pipes_expr.specs.declared.expr.Expr.{Expr, fold-Expr}
use Rattle.pipes_expr.specs.declared.expr.Expr.TheOpen.{Expr-F, Col, Literal, Binary, Not}

-- the values of a tuple
abbrev pub Row : Type 0
Row = List Value

-- the value where an expression isn't typed
abbrev pub no_value : Value
no_value = value.Flag false

abbrev pub column : Row → ℕ → Value
column row i = unwrap_or (slice_get row i) no_value

abbrev pub is_true : Value → Bool
is_true (value.Flag b) = b
is_true _ = false

-- an integer operation: the exact result, clamped to 64 bits
abbrev pub clamped : (ℤ → ℤ → ℤ) → Value → Value → Value
clamped f (value.Int a) (value.Int b) = value.Int (saturate_signed w64 (f a b))
clamped f _ _ = no_value

-- what an operator makes of two values: numbers, comparisons by the order of values, truth
abbrev pub op_value : Op → Value → Value → Value
op_value op.Add a b = clamped ◌+ℤ◌ a b
op_value op.Sub a b = clamped ◌-ℤ◌ a b
op_value op.Mul a b = clamped ◌*ℤ◌ a b
op_value op.Eq a b = value.Flag (value_eq a b)
op_value op.Lt a b = value.Flag (is_lt (value_cmp a b))
op_value op.Le a b = value.Flag (is_le (value_cmp a b))
op_value op.And a b = value.Flag (is_true a && is_true b)
op_value op.Or a b = value.Flag (is_true a || is_true b)

abbrev pub not_value : Value → Value
not_value a = value.Flag (not (is_true a))

-- the value of a node, once each child has one
abbrev pub value_step : Expr-F (Row → Value) → Row → Value
value_step (Col i) row = column row i
value_step (Literal v) row = v
value_step (Binary o a b) row = op_value o (a row) (b row)
value_step (Not a) row = not_value (a row)

-- the value of an expression on a row
abbrev pub value_of : Expr → Row → Value
value_of = fold-Expr (Row → Value) value_step

-- the expression is true on the row
abbrev pub passes : Expr → Row → Bool
passes condition row = is_true (value_of condition row)
