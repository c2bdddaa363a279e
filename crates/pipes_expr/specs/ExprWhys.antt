-- All that is refused in an expression, in the order in which it counts.
use Rattle.std.specs.Prelude.{ℕ, Bool, true, false, List, [], ◌∷◌, ◌++◌, slice_get, Option, Some}
use Rattle.std.specs.Prelude.{None, is_some, nat_le}
use Rattle.pipes_tuple.specs.declared.value.Kind.{Kind}
use Rattle.pipes_tuple.specs.Kinds.{kind_of}
use Rattle.pipes_expr.specs.declared.why.Why.{Why}
use Rattle.pipes_expr.specs.declared.why.Why.TheVariants.{TooMany, TooDeep, NoColumn, WrongKind}
use Rattle.pipes_expr.specs.declared.expr.Expr.{Expr, fold-Expr}
use Rattle.pipes_expr.specs.declared.expr.Expr.TheOpen.{Expr-F, Col, Literal, Binary, Not}
use Rattle.pipes_expr.specs.ExprKind.{both, only, op_kind, not_kind}
use Rattle.pipes_expr.specs.ExprSize.{expr_nodes, expr_depth}

-- a refusal, unless the test holds
abbrev pub unless : Bool → Why → List Why
unless true why = []
unless false why = why ∷ []

-- too many nodes come before too deep a path
abbrev pub limit_whys : ℕ → ℕ → List Why
limit_whys nodes depth = unless (nat_le nodes 255) TooMany ++ unless (nat_le depth 32) TooDeep

-- an expression's kind, and all kinds and columns that are refused in it
pub record Read : Type 0 where
  pub kind : Option Kind
  pub whys : List Why

-- a node is refused only where its children have kinds
abbrev pub mismatch_two : (Kind → Kind → Option Kind) → Option Kind → Option Kind → List Why
mismatch_two f (Some j) (Some k) = unless (is_some (f j k)) WrongKind
mismatch_two f _ _ = []

abbrev pub mismatch_one : (Kind → Option Kind) → Option Kind → List Why
mismatch_one f (Some k) = unless (is_some (f k)) WrongKind
mismatch_one f None = []

abbrev pub read_two : (Kind → Kind → Option Kind) → Read → Read → Read
read_two f a b = record {
  kind = both f a.kind b.kind;
  whys = a.whys ++ (b.whys ++ mismatch_two f a.kind b.kind);
}

abbrev pub read_one : (Kind → Option Kind) → Read → Read
read_one f a = record { kind = only f a.kind; whys = a.whys ++ mismatch_one f a.kind }

abbrev pub column_whys : List Kind → ℕ → List Why
column_whys kinds i = unless (is_some (slice_get kinds i)) NoColumn

-- children before their parent, left before right
abbrev pub read_step : Expr-F (List Kind → Read) → List Kind → Read
read_step (Col i) s = record { kind = slice_get s i; whys = column_whys s i }
read_step (Literal v) s = record { kind = Some (kind_of v); whys = [] }
read_step (Binary o a b) s = read_two (op_kind o) (a s) (b s)
read_step (Not a) s = read_one not_kind (a s)

abbrev pub read : Expr → List Kind → Read
read = fold-Expr (List Kind → Read) read_step

-- an expression's limits come before its kinds and columns
abbrev pub expr_whys : List Kind → Expr → List Why
expr_whys s e = limit_whys (expr_nodes e) (expr_depth e) ++ (read e s).whys

abbrev pub first_of : {A : Type 0} → List A → Option A
first_of [] = None
first_of (x ∷ xs) = Some x
