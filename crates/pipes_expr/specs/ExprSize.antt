-- How many nodes an expression has, and how many on its longest path from the root to a leaf.
use Rattle.std.specs.Prelude.{ℕ, ◌+◌, ◌-◌, max, Option, Some, None, if◌then◌else◌, nat_le}
use Rattle.pipes_expr.specs.declared.expr.Expr.{Expr, fold-Expr}
use Rattle.pipes_expr.specs.declared.expr.Expr.TheOpen.{Expr-F, Col, Literal, Binary, Not}

-- a number for an expression: that of a leaf, of a node over one child and of one over two
abbrev pub expr_measure_step : ℕ → (ℕ → ℕ) → (ℕ → ℕ → ℕ) → Expr-F ℕ → ℕ
expr_measure_step leaf one two (Col i) = leaf
expr_measure_step leaf one two (Literal v) = leaf
expr_measure_step leaf one two (Binary o a b) = two a b
expr_measure_step leaf one two (Not a) = one a

abbrev pub expr_nodes : Expr → ℕ
expr_nodes = fold-Expr ℕ (expr_measure_step 1 (λ a. a + 1) (λ a b. a + b + 1))

abbrev pub expr_depth : Expr → ℕ
expr_depth = fold-Expr ℕ (expr_measure_step 1 (λ a. a + 1) (λ a b. max a b + 1))

-- what is left of a budget of nodes
abbrev pub left_over : ℕ → ℕ → Option ℕ
left_over budget n = if nat_le n budget then Some (budget - n) else None
