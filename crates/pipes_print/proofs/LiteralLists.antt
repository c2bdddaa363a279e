-- The literals of each node, as equations, and the parts of a list.
use Rattle.std.proofs.Common.{◌≡◌, ℕ, List, [], ◌∷◌, ◌++◌, rules}
use Rattle.std.specs.List.{flat_map}
use Rattle.pipes_tuple.specs.declared.value.Value.{Value}
use Rattle.pipes_expr.specs.declared.op.Op.{Op}
use Rattle.pipes_expr.specs.declared.expr.Expr.{Expr, the_lemmas as expr_lemmas}
use Rattle.pipes_expr.specs.declared.expr.Expr.TheVariants as expr
use Rattle.pipes_relation.specs.declared.lists.Pair.{Pair}
use Rattle.pipes_relation.specs.declared.lists.Agg.{Agg}
use Rattle.pipes_plan.specs.declared.plan.Plan.{Plan, the_lemmas as plan_lemmas}
use Rattle.pipes_plan.specs.declared.plan.Plan.TheVariants as plan
use Rattle.pipes_print.specs.Writable.{Each, literals_of, plan_literals}

-- ---- what holds of each of two lists

pub each_parts : {A : Type 0} (P : A → Type 0) (xs ys : List A) → Each P (xs ++ ys)
    → Each P xs × Each P ys
each_parts P [] ys h = (tt, h)
each_parts P (x ∷ xs) ys h = let w = each_parts P xs ys h.1 in ((h.0, w.0), w.1)

pub each_joined : {A : Type 0} (P : A → Type 0) (xs ys : List A) → Each P xs → Each P ys
    → Each P (xs ++ ys)
each_joined P [] ys h k = k
each_joined P (x ∷ xs) ys h k = (h.0, each_joined P xs ys h.1 k)

-- ---- the literals of expressions

pub literals-Literal : (v : Value) → literals_of (expr.Literal v) ≡ v ∷ []
literals-Literal v = search (rules, expr_lemmas)

pub literals-Binary : (o : Op) (a b : Expr)
    → literals_of (expr.Binary o a b) ≡ literals_of a ++ literals_of b
literals-Binary o a b = search (rules, expr_lemmas)

pub literals-Not : (a : Expr) → literals_of (expr.Not a) ≡ literals_of a
literals-Not a = search (rules, expr_lemmas)

-- ---- the literals of plans

pub literals-Filter : (c : Expr) (a : Plan)
    → plan_literals (plan.Filter c a) ≡ literals_of c ++ plan_literals a
literals-Filter c a = search (rules, plan_lemmas)

pub literals-Map : (es : List Expr) (a : Plan)
    → plan_literals (plan.Map es a) ≡ flat_map literals_of es ++ plan_literals a
literals-Map es a = search (rules, plan_lemmas)

pub literals-Union : (a b : Plan)
    → plan_literals (plan.Union a b) ≡ plan_literals a ++ plan_literals b
literals-Union a b = search (rules, plan_lemmas)

pub literals-Join : (k : List Pair) (c : Expr) (a b : Plan)
    → plan_literals (plan.Join k c a b) ≡ literals_of c ++ (plan_literals a ++ plan_literals b)
literals-Join k c a b = search (rules, plan_lemmas)

pub literals-Distinct : (a : Plan) → plan_literals (plan.Distinct a) ≡ plan_literals a
literals-Distinct a = search (rules, plan_lemmas)

pub literals-Group : (k : List ℕ) (g : List Agg) (a : Plan)
    → plan_literals (plan.Group k g a) ≡ plan_literals a
literals-Group k g a = search (rules, plan_lemmas)

pub literals-Minus : (a b : Plan)
    → plan_literals (plan.Minus a b) ≡ plan_literals a ++ plan_literals b
literals-Minus a b = search (rules, plan_lemmas)
