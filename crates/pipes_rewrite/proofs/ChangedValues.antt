-- The value of an expression under a change of its columns.
use Rattle.std.proofs.Common.{◌≡◌, ℕ, ◌<◌, List, [], ◌∷◌, map, length, refl, sym, ap, ◌∙◌, rules}
use Rattle.std.proofs.Common.{Option, Some, None, slice_get}
use Rattle.std.specs.Option.{option_map}
use Rattle.std.proofs.lemmas.Option.{slice_get_within}
use Rattle.pipes_tuple.specs.declared.value.Value.{Value}
use Rattle.pipes_tuple.specs.declared.value.Kind.{Kind}
use Rattle.pipes_expr.specs.declared.op.Op.{Op}
use Rattle.pipes_expr.specs.declared.expr.Expr.{Expr, the_lemmas}
use Rattle.pipes_expr.specs.declared.expr.Expr.TheVariants.{Col, Literal, Binary, Not}
use Rattle.pipes_expr.specs.ExprValue.{Row, column, value_of, op_value, not_value}
use Rattle.pipes_expr.specs.ExprKind.{expr_kind, both, only, op_kind, not_kind}
use Rattle.pipes_expr.proofs.ExprInduction.{Cases, induct}
use Rattle.pipes_expr.proofs.ExprTyped.{operands}
use Rattle.pipes_expr.proofs.ExprEquations.{value_of-Col, expr_kind-Col, value_of-Literal}
use Rattle.pipes_expr.proofs.ExprEquations.{value_of-Binary, expr_kind-Binary, value_of-Not}
use Rattle.pipes_expr.proofs.ExprEquations.{expr_kind-Not}
use Rattle.pipes_rewrite.specs.Changes.{both_there, expr_changed, exprs_changed}

pub changed-Col : (f : ℕ → Option Expr) (i : ℕ) → expr_changed f (Col i) ≡ f i
changed-Col f i = search (rules, the_lemmas)

pub changed-Literal : (f : ℕ → Option Expr) (v : Value)
    → expr_changed f (Literal v) ≡ Some (Literal v)
changed-Literal f v = search (rules, the_lemmas)

pub changed-Binary : (f : ℕ → Option Expr) (o : Op) (a b : Expr)
    → expr_changed f (Binary o a b) ≡ both_there (Binary o) (expr_changed f a) (expr_changed f b)
changed-Binary f o a b = search (rules, the_lemmas)

pub changed-Not : (f : ℕ → Option Expr) (a : Expr)
    → expr_changed f (Not a) ≡ option_map Not (expr_changed f a)
changed-Not f a = search (rules, the_lemmas)

-- the two parts of what is there
pub both_are_there : {A B C : Type 0} (g : A → B → C) (p : Option A) (q : Option B) (z : C)
    → both_there g p q ≡ Some z → (x : A) × (y : B) × (p ≡ Some x) × (q ≡ Some y) × (g x y ≡ z)
both_are_there g (Some x) (Some y) z h = (x, y, refl, refl, cc)
both_are_there g (Some x) None z h = cc
both_are_there g None q z h = cc

pub is_there : {A B : Type 0} (g : A → B) (p : Option A) (z : B) → option_map g p ≡ Some z
    → (x : A) × (p ≡ Some x) × (g x ≡ z)
is_there g (Some x) z h = (x, refl, cc)
is_there g None z h = cc

pub only_there : (f : Kind → Option Kind) (p : Option Kind) (k : Kind) → only f p ≡ Some k
    → (j : Kind) × (p ≡ Some j)
only_there f (Some j) k h = (j, refl)
only_there f None k h = cc

-- over a schema s, the changed expression has on one row the value that the expression has on
-- another
abbrev Agrees : (ℕ → Option Expr) → List Kind → Row → Row → Expr → Type 0
Agrees f s row row' e = (k : Kind) → expr_kind e s ≡ Some k → (e' : Expr)
    → expr_changed f e ≡ Some e' → value_of e' row' ≡ value_of e row

-- what comes in place of each column of the schema has the column's value
abbrev pub Places : (ℕ → Option Expr) → List Kind → Row → Row → Type 0
Places f s row row' = (i : ℕ) → i < length s → (x : Expr) → f i ≡ Some x
    → value_of x row' ≡ column row i

module _ (f : ℕ → Option Expr) (s : List Kind) (row row' : Row) (places : Places f s row row') where
  literal_case : (v : Value) (e' : Expr) → Some (Literal v) ≡ Some e'
      → value_of e' row' ≡ value_of (Literal v) row
  literal_case v e' h =
      let same : Literal v ≡ e' = cc in
      ap (λ z. value_of z row') (sym same) ∙ value_of-Literal v row' ∙ sym (value_of-Literal v row)

  agree_cases : Cases (Agrees f s row row')
  agree_cases = record {
    col = λ i k h e' g. places i (slice_get_within s i k (sym (expr_kind-Col i s) ∙ h)) e'
        (sym (changed-Col f i) ∙ g) ∙ sym (value_of-Col i row);
    literal = λ v k h e' g. literal_case v e' (sym (changed-Literal f v) ∙ g);
    binary = λ o a b p q k h e' g.
        let t = operands (op_kind o) (expr_kind a s) (expr_kind b s) k
        (sym (expr_kind-Binary o a b s) ∙ h) in
        let w = both_are_there (Binary o) (expr_changed f a) (expr_changed f b) e'
        (sym (changed-Binary f o a b) ∙ g) in
        ap (λ z. value_of z row') (sym w.4) ∙ value_of-Binary o w.0 w.1 row'
        ∙ ap (λ v. op_value o v (value_of w.1 row')) (p t.left t.left_is w.0 w.2)
        ∙ ap (op_value o (value_of a row)) (q t.right t.right_is w.1 w.3)
        ∙ sym (value_of-Binary o a b row);
    not = λ a p k h e' g.
        let t = only_there not_kind (expr_kind a s) k (sym (expr_kind-Not a s) ∙ h) in
        let w = is_there Not (expr_changed f a) e' (sym (changed-Not f a) ∙ g) in
        ap (λ z. value_of z row') (sym w.2) ∙ value_of-Not w.0 row'
        ∙ ap not_value (p t.0 t.1 w.0 w.1) ∙ sym (value_of-Not a row);
  }

  pub changed_value : (e e' : Expr) (k : Kind) → expr_kind e s ≡ Some k
      → expr_changed f e ≡ Some e' → value_of e' row' ≡ value_of e row
  changed_value e e' k h g = induct (Agrees f s row row') agree_cases e k h e' g
