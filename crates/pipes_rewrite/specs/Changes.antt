-- Changes of columns: what comes in place of each column of an expression. A change is partial:
-- an expression is changed only where each of its columns is.
use Rattle.std.specs.Prelude.{ℕ, ◌+◌, ◌-◌, min, Bool, true, false, List, [], ◌∷◌, slice_get}
use Rattle.std.specs.Prelude.{Option, Some, None, if◌then◌else◌, nat_lt, nat_le}
use Rattle.std.specs.Option.{option_map}
use Rattle.pipes_tuple.specs.declared.value.Value.{Value}
use Rattle.pipes_tuple.specs.declared.value.Value.TheVariants as value
use Rattle.pipes_expr.specs.declared.op.Op.TheVariants.{And}
use Rattle.pipes_expr.specs.declared.expr.Expr.{Expr, out-Expr, fold-Expr}
use Rattle.pipes_expr.specs.declared.expr.Expr.TheOpen as e
use Rattle.pipes_expr.specs.declared.expr.Expr.TheVariants.{Col, Literal, Binary, Not}

-- a sum of two numbers of 32 bits; that of two columns of a plan that checks is far from the limit
abbrev pub sum_32 : ℕ → ℕ → ℕ
sum_32 a b = min (a + b) 4294967295

-- ---- what comes in place of column i

-- the column n places higher
abbrev pub raise_by : ℕ → ℕ → Option Expr
raise_by n i = Some (Col (sum_32 i n))

-- the column n places lower, for a column at or above n
abbrev pub lower_by : ℕ → ℕ → Option Expr
lower_by n i = if nat_le n i then Some (Col (i - n)) else None

-- the same column, for one below n
abbrev pub only_below : ℕ → ℕ → Option Expr
only_below n i = if nat_lt i n then Some (Col i) else None

-- the column's place once the two sides of a join, of these widths, are exchanged
abbrev pub exchanged : ℕ → ℕ → ℕ → ℕ
exchanged left right i = if nat_lt i left then sum_32 i right else i - left

abbrev pub exchange_sides : ℕ → ℕ → ℕ → Option Expr
exchange_sides left right i = Some (Col (exchanged left right i))

-- the column at place i of the list
abbrev pub column_in : List ℕ → ℕ → Option Expr
column_in columns i = option_map Col (slice_get columns i)

-- the expression at place i of the list
abbrev pub expr_in : List Expr → ℕ → Option Expr
expr_in exprs i = slice_get exprs i

-- ---- expressions under a change

-- what is made of two values, where both are there
abbrev pub both_there : {A B C : Type 0} → (A → B → C) → Option A → Option B → Option C
both_there f (Some a) (Some b) = Some (f a b)
both_there f _ _ = None

abbrev pub change_step : (ℕ → Option Expr) → e.Expr-F (Option Expr) → Option Expr
change_step f (e.Col i) = f i
change_step f (e.Literal v) = Some (Literal v)
change_step f (e.Binary o a b) = both_there (Binary o) a b
change_step f (e.Not a) = option_map Not a

-- the expression with f(i) in place of each column i
abbrev pub expr_changed : (ℕ → Option Expr) → Expr → Option Expr
expr_changed f = fold-Expr (Option Expr) (change_step f)

-- each expression of a list changed
abbrev pub exprs_changed : (ℕ → Option Expr) → List Expr → Option (List Expr)
exprs_changed f [] = Some []
exprs_changed f (x ∷ xs) = both_there ◌∷◌ (expr_changed f x) (exprs_changed f xs)

-- ---- expressions over one side of a join, and over both

-- with each column n places higher
unfoldable pub raised : ℕ → Expr → Option Expr
raised n x = expr_changed (raise_by n) x

-- with each column n places lower
unfoldable pub lowered : ℕ → Expr → Option Expr
lowered n x = expr_changed (lower_by n) x

-- the same, where each column is below n
unfoldable pub kept_below : ℕ → Expr → Option Expr
kept_below n x = expr_changed (only_below n) x

-- with the sides of these widths exchanged
unfoldable pub turned : ℕ → ℕ → Expr → Option Expr
turned left right x = expr_changed (exchange_sides left right) x

-- ---- conjunction

abbrev pub truth_value : Value → Bool
truth_value (value.Flag b) = b
truth_value _ = false

abbrev pub truth_layer : e.Expr-F Expr → Bool
truth_layer (e.Literal v) = truth_value v
truth_layer _ = false

-- the expression is the literal `true`
abbrev pub is_truth : Expr → Bool
is_truth x = truth_layer (out-Expr x)

abbrev pub truth : Expr
truth = Literal (value.Flag true)

-- both are true; a side that is the literal `true` is left out
abbrev pub conjunction : Expr → Expr → Expr
conjunction a b =
    if is_truth a then b
    else if is_truth b then a
    else Binary And a b
