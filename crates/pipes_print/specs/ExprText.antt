-- The one text in which an expression is printed.
use Rattle.std.specs.Prelude.{ℕ, List, [], ◌∷◌, ◌++◌, codes}
use Rattle.std.specs.Fmt.{decimal}
use Rattle.std.specs.List.{flat_map}
use Rattle.pipes_tuple.specs.Texts.{text_of}
use Rattle.pipes_expr.specs.declared.expr.Expr.{Expr, fold-Expr}
use Rattle.pipes_expr.specs.declared.expr.Expr.TheOpen.{Expr-F, Col, Literal, Binary, Not}
use Rattle.pipes_expr.specs.declared.op.Op.{Op}
use Rattle.pipes_expr.specs.declared.op.Op.TheVariants as op

-- a sign or a word between the two sides
abbrev pub op_text : Op → List ℕ
op_text op.Add = codes " + "
op_text op.Sub = codes " - "
op_text op.Mul = codes " * "
op_text op.Eq = codes " = "
op_text op.Lt = codes " < "
op_text op.Le = codes " <= "
op_text op.And = codes " and "
op_text op.Or = codes " or "

-- two sides in brackets
abbrev pub sides_text : Op → List ℕ → List ℕ → List ℕ
sides_text o a b = codes "(" ++ (a ++ (op_text o ++ (b ++ codes ")")))

abbrev pub expr_step : Expr-F (List ℕ) → List ℕ
expr_step (Col i) = codes "$" ++ decimal i
expr_step (Literal v) = text_of v
expr_step (Binary o a b) = sides_text o a b
expr_step (Not a) = codes "not " ++ a

-- a literal is printed as the value that it is, anything else node by node
abbrev pub expr_text : Expr → List ℕ
expr_text = fold-Expr (List ℕ) expr_step

-- the texts of a list's entries, with a comma and a space before each but the first
abbrev pub entries_text : {A : Type 0} → (A → List ℕ) → List A → List ℕ
entries_text text [] = []
entries_text text (x ∷ xs) = text x ++ flat_map (λ y. codes ", " ++ text y) xs

-- a list in brackets
abbrev pub list_text : {A : Type 0} → (A → List ℕ) → List A → List ℕ
list_text text xs = codes "[" ++ (entries_text text xs ++ codes "]")
