-- The value of a typed expression has the expression's kind.
use Rattle.std.proofs.Common.{◌≡◌, ◌+ℤ◌, ◌-ℤ◌, ◌*ℤ◌, ℕ, ℤ, List, map, refl, sym, ◌∙◌, Option, Some}
use Rattle.std.proofs.Common.{None, slice_get, unwrap_or, option_map}
use Rattle.std.proofs.lemmas.Option.{slice_get-map}
use Rattle.pipes_tuple.specs.declared.value.Value.{Value}
use Rattle.pipes_tuple.specs.declared.value.Value.TheVariants as value
use Rattle.pipes_tuple.specs.declared.value.Kind.{Kind}
use Rattle.pipes_tuple.specs.declared.value.Kind.TheVariants as kind
use Rattle.pipes_tuple.specs.Kinds.{kind_of, Fits}
use Rattle.pipes_expr.specs.declared.op.Op.{Op}
use Rattle.pipes_expr.specs.declared.op.Op.TheVariants.{Add, Sub, Mul, Eq, Lt, Le, And, Or}
use Rattle.pipes_expr.specs.declared.expr.Expr.{Expr}
use Rattle.pipes_expr.specs.ExprValue.{Row, value_of, column, clamped, op_value, no_value, is_true}
use Rattle.pipes_expr.specs.ExprKind.{expr_kind, both, only, of_ints, of_alike, of_flags, op_kind}
use Rattle.pipes_expr.specs.ExprKind.{not_kind}
use Rattle.pipes_expr.proofs.ExprInduction.{Cases, induct}
use Rattle.pipes_expr.proofs.ExprEquations.{value_of-Col, expr_kind-Col, value_of-Literal}
use Rattle.pipes_expr.proofs.ExprEquations.{expr_kind-Literal, value_of-Binary, expr_kind-Binary}
use Rattle.pipes_expr.proofs.ExprEquations.{value_of-Not, expr_kind-Not}

some_same : {a b : Kind} → Some a ≡ Some b → a ≡ b
some_same h = cc

-- the kinds of the two sides of a typed node
pub record Operands (f : Kind → Kind → Option Kind) (p q : Option Kind) (k : Kind) : Type 0 where
  pub left : Kind
  pub right : Kind
  pub left_is : p ≡ Some left
  pub right_is : q ≡ Some right
  pub is : f left right ≡ Some k

pub operands : (f : Kind → Kind → Option Kind) (p q : Option Kind) (k : Kind)
    → both f p q ≡ Some k → Operands f p q k
operands f (Some i) (Some j) k h =
    record { left = i; right = j; left_is = refl; right_is = refl; is = h }
operands f (Some i) None k h = cc
operands f None q k h = cc

-- comparisons and truth give flags
alike_gives : (i j k : Kind) → of_alike i j ≡ Some k → kind.Flag ≡ k
alike_gives kind.Int kind.Int k h = cc
alike_gives kind.Text kind.Text k h = cc
alike_gives kind.Flag kind.Flag k h = cc
alike_gives _ _ k h = cc

flags_give : (i j k : Kind) → of_flags i j ≡ Some k → kind.Flag ≡ k
flags_give kind.Flag kind.Flag k h = cc
flags_give _ _ k h = cc

flag_gives : (p : Option Kind) (k : Kind) → only not_kind p ≡ Some k → kind.Flag ≡ k
flag_gives (Some kind.Flag) k h = cc
flag_gives _ k h = cc

-- the integer operators take integers and give them
ints_give : (f : ℤ → ℤ → ℤ) (a b : Value) (k : Kind) → of_ints (kind_of a) (kind_of b) ≡ Some k
    → kind_of (clamped f a b) ≡ k
ints_give f (value.Int a) (value.Int b) k h = some_same h
ints_give f (value.Int a) (value.Text b) k h = cc
ints_give f (value.Int a) (value.Flag b) k h = cc
ints_give f (value.Text a) b k h = cc
ints_give f (value.Flag a) b k h = cc

-- what an operator makes of values that suit it has the operator's kind
pub op_gives : (o : Op) (a b : Value) (k : Kind) → op_kind o (kind_of a) (kind_of b) ≡ Some k
    → kind_of (op_value o a b) ≡ k
op_gives Add a b k h = ints_give ◌+ℤ◌ a b k h
op_gives Sub a b k h = ints_give ◌-ℤ◌ a b k h
op_gives Mul a b k h = ints_give ◌*ℤ◌ a b k h
op_gives Eq a b k h = alike_gives (kind_of a) (kind_of b) k h
op_gives Lt a b k h = alike_gives (kind_of a) (kind_of b) k h
op_gives Le a b k h = alike_gives (kind_of a) (kind_of b) k h
op_gives And a b k h = flags_give (kind_of a) (kind_of b) k h
op_gives Or a b k h = flags_give (kind_of a) (kind_of b) k h

sides_give : (o : Op) (a b : Value) (p q : Option Kind) (k : Kind)
    → ((j : Kind) → p ≡ Some j → kind_of a ≡ j) → ((j : Kind) → q ≡ Some j → kind_of b ≡ j)
    → both (op_kind o) p q ≡ Some k → kind_of (op_value o a b) ≡ k
sides_give o a b p q k g h e =
    let sides = operands (op_kind o) p q k e in
    op_gives o a b k (rw (g sides.left sides.left_is, h sides.right sides.right_is) sides.is)

some_kind : (o : Option Value) (k : Kind) → option_map kind_of o ≡ Some k
    → kind_of (unwrap_or o no_value) ≡ k
some_kind (Some v) k h = cc
some_kind None k h = cc

-- a column's value has the column's kind
pub column_kind : (row : Row) (s : List Kind) → Fits row s → (i : ℕ) (k : Kind)
    → slice_get s i ≡ Some k → kind_of (column row i) ≡ k
column_kind row s fits i k h =
    some_kind (slice_get row i) k (sym (slice_get-map kind_of row i) ∙ (rw fits h))

abbrev HasKind : Row → List Kind → Expr → Type 0
HasKind row s e = (k : Kind) → expr_kind e s ≡ Some k → kind_of (value_of e row) ≡ k

cases : (row : Row) (s : List Kind) → Fits row s → Cases (HasKind row s)
cases row s fits = record {
  col = λ i k h. rw (value_of-Col) (column_kind row s fits i k (rw (expr_kind-Col) at h));
  literal = λ v k h. rw (value_of-Literal) (some_same (rw (expr_kind-Literal) at h));
  binary = λ o a b p q k h. rw (value_of-Binary)
      (sides_give o (value_of a row) (value_of b row) (expr_kind a s) (expr_kind b s) k p q
      (rw (expr_kind-Binary) at h));
  not = λ a p k h. rw (value_of-Not) (flag_gives _ k (rw (expr_kind-Not) at h));
}

pub value_kind : (row : Row) (s : List Kind) → Fits row s → (e : Expr) (k : Kind)
    → expr_kind e s ≡ Some k → kind_of (value_of e row) ≡ k
value_kind row s fits e k h = induct (HasKind row s) (cases row s fits) e k h

flag_value : (v : Value) → kind_of v ≡ kind.Flag → v ≡ value.Flag (is_true v)
flag_value (value.Flag b) h = refl
flag_value (value.Int n) h = cc
flag_value (value.Text t) h = cc

-- a condition's value is a flag
pub value_flag : (row : Row) (e : Expr) → expr_kind e (map kind_of row) ≡ Some kind.Flag
    → value_of e row ≡ value.Flag (is_true (value_of e row))
value_flag row e h =
    flag_value (value_of e row) (value_kind row (map kind_of row) refl e kind.Flag h)
