-- The depth of an expression and the limits of a plan, node by node.
use Rattle.std.proofs.Common.{◌≡◌, ℕ, ℤ, ◌+◌, max, Bool, List, length, rules}
use Rattle.pipes_tuple.specs.declared.value.Value.{Value}
use Rattle.pipes_relation.specs.declared.lists.Pair.{Pair}
use Rattle.pipes_relation.specs.declared.lists.Agg.{Agg}
use Rattle.pipes_expr.specs.declared.expr.Expr.{Expr, the_lemmas as expr_lemmas}
use Rattle.pipes_expr.specs.declared.expr.Expr.TheVariants as expr
use Rattle.pipes_plan.specs.declared.plan.Plan.{Plan, the_lemmas as plan_lemmas}
use Rattle.pipes_plan.specs.declared.plan.Plan.TheVariants as plan
use Rattle.pipes_expr.specs.ExprSize.{expr_depth}
use Rattle.pipes_plan.specs.Sizes.{plan_depth}
use Rattle.pipes_expr.specs.declared.op.Op.{Op}
use Rattle.pipes_grammar.specs.Limits.{deepest, deepest_expr, longest_list}

-- ---- expressions

pub expr_depth-Col : (i : ℕ) → expr_depth (expr.Col i) ≡ 1
expr_depth-Col i = search (rules, expr_lemmas)

pub expr_depth-Literal : (v : Value) → expr_depth (expr.Literal v) ≡ 1
expr_depth-Literal v = search (rules, expr_lemmas)

pub expr_depth-Not : (a : Expr) → expr_depth (expr.Not a) ≡ expr_depth a + 1
expr_depth-Not a = search (rules, expr_lemmas)

pub expr_depth-Binary : (op : Op) (a b : Expr)
    → expr_depth (expr.Binary op a b) ≡ max (expr_depth a) (expr_depth b) + 1
expr_depth-Binary op a b = search (rules, expr_lemmas)

-- ---- plans

pub plan_depth-Source : (i : ℕ) → plan_depth (plan.Source i) ≡ 1
plan_depth-Source i = search (rules, plan_lemmas)

pub plan_depth-Filter : (c : Expr) (a : Plan) → plan_depth (plan.Filter c a) ≡ plan_depth a + 1
plan_depth-Filter c a = search (rules, plan_lemmas)

pub plan_depth-Map : (es : List Expr) (a : Plan) → plan_depth (plan.Map es a) ≡ plan_depth a + 1
plan_depth-Map es a = search (rules, plan_lemmas)

pub plan_depth-Union : (a b : Plan) → plan_depth (plan.Union a b) ≡ max (plan_depth a)
    (plan_depth b) + 1
plan_depth-Union a b = search (rules, plan_lemmas)

pub plan_depth-Join : (k : List Pair) (c : Expr) (a b : Plan)
    → plan_depth (plan.Join k c a b) ≡ max (plan_depth a) (plan_depth b) + 1
plan_depth-Join k c a b = search (rules, plan_lemmas)

pub plan_depth-Distinct : (a : Plan) → plan_depth (plan.Distinct a) ≡ plan_depth a + 1
plan_depth-Distinct a = search (rules, plan_lemmas)

pub plan_depth-Group : (k : List ℕ) (g : List Agg) (a : Plan)
    → plan_depth (plan.Group k g a) ≡ plan_depth a + 1
plan_depth-Group k g a = search (rules, plan_lemmas)

pub plan_depth-Minus : (a b : Plan) → plan_depth (plan.Minus a b) ≡ max (plan_depth a)
    (plan_depth b) + 1
plan_depth-Minus a b = search (rules, plan_lemmas)

pub deepest_expr-Source : (i : ℕ) → deepest_expr (plan.Source i) ≡ 0
deepest_expr-Source i = search (rules, plan_lemmas)

pub deepest_expr-Filter : (c : Expr) (a : Plan) → deepest_expr (plan.Filter c a) ≡ max
    (expr_depth c) (deepest_expr a)
deepest_expr-Filter c a = search (rules, plan_lemmas)

pub deepest_expr-Map : (es : List Expr) (a : Plan) → deepest_expr (plan.Map es a) ≡ max (deepest es)
    (deepest_expr a)
deepest_expr-Map es a = search (rules, plan_lemmas)

pub deepest_expr-Union : (a b : Plan) → deepest_expr (plan.Union a b) ≡ max (deepest_expr a)
    (deepest_expr b)
deepest_expr-Union a b = search (rules, plan_lemmas)

pub deepest_expr-Join : (k : List Pair) (c : Expr) (a b : Plan)
    → deepest_expr (plan.Join k c a b) ≡ max (expr_depth c) (max (deepest_expr a) (deepest_expr b))
deepest_expr-Join k c a b = search (rules, plan_lemmas)

pub deepest_expr-Distinct : (a : Plan) → deepest_expr (plan.Distinct a) ≡ deepest_expr a
deepest_expr-Distinct a = search (rules, plan_lemmas)

pub deepest_expr-Group : (k : List ℕ) (g : List Agg) (a : Plan)
    → deepest_expr (plan.Group k g a) ≡ deepest_expr a
deepest_expr-Group k g a = search (rules, plan_lemmas)

pub deepest_expr-Minus : (a b : Plan) → deepest_expr (plan.Minus a b) ≡ max (deepest_expr a)
    (deepest_expr b)
deepest_expr-Minus a b = search (rules, plan_lemmas)

pub longest_list-Source : (i : ℕ) → longest_list (plan.Source i) ≡ 0
longest_list-Source i = search (rules, plan_lemmas)

pub longest_list-Filter : (c : Expr) (a : Plan) → longest_list (plan.Filter c a) ≡ longest_list a
longest_list-Filter c a = search (rules, plan_lemmas)

pub longest_list-Map : (es : List Expr) (a : Plan) → longest_list (plan.Map es a) ≡ max (length es)
    (longest_list a)
longest_list-Map es a = search (rules, plan_lemmas)

pub longest_list-Union : (a b : Plan) → longest_list (plan.Union a b) ≡ max (longest_list a)
    (longest_list b)
longest_list-Union a b = search (rules, plan_lemmas)

pub longest_list-Join : (k : List Pair) (c : Expr) (a b : Plan)
    → longest_list (plan.Join k c a b) ≡ max (length k) (max (longest_list a) (longest_list b))
longest_list-Join k c a b = search (rules, plan_lemmas)

pub longest_list-Distinct : (a : Plan) → longest_list (plan.Distinct a) ≡ longest_list a
longest_list-Distinct a = search (rules, plan_lemmas)

pub longest_list-Group : (k : List ℕ) (g : List Agg) (a : Plan)
    → longest_list (plan.Group k g a) ≡ max (max (length k) (length g)) (longest_list a)
longest_list-Group k g a = search (rules, plan_lemmas)

pub longest_list-Minus : (a b : Plan) → longest_list (plan.Minus a b) ≡ max (longest_list a)
    (longest_list b)
longest_list-Minus a b = search (rules, plan_lemmas)
