-- A plan is as steep as there are operators on a path that may lag.
use Rattle.std.proofs.Common.{◌≡◌, ℕ, ◌+◌, max, List, rules, ap, arith}
use Rattle.pipes_tuple.specs.declared.value.Kind.{Kind}
use Rattle.pipes_relation.specs.declared.lists.Pair.{Pair}
use Rattle.pipes_relation.specs.declared.lists.Agg.{Agg}
use Rattle.pipes_expr.specs.declared.expr.Expr.{Expr}
use Rattle.pipes_plan.specs.declared.plan.Plan.{Plan, the_lemmas}
use Rattle.pipes_plan.specs.declared.plan.Plan.TheVariants.{Source, Filter, Map, Union, Join}
use Rattle.pipes_plan.specs.declared.plan.Plan.TheVariants.{Distinct, Group, Minus}
use Rattle.pipes_plan.proofs.PlanInduction.{PlanCases, induct_plan}
use Rattle.pipes_box.specs.Shapes.{shape_of}
use Rattle.pipes_box.specs.Prompt.{lag_of}
use Rattle.pipes_box.proofs.Plans.{shape-Source}
use Rattle.pipes_box.proofs.PerKind.{shape-Filter, shape-Map, shape-Union, shape-Join}
use Rattle.pipes_box.proofs.PerKind.{shape-Distinct, shape-Group, shape-Minus}
use Rattle.pipes_told.specs.Steep.{steep}

pub steep-Source : (i : ℕ) → steep (Source i) ≡ 0
steep-Source i = search (rules, the_lemmas)

pub steep-Filter : (p : Expr) (a : Plan) → steep (Filter p a) ≡ steep a
steep-Filter p a = search (rules, the_lemmas)

pub steep-Map : (es : List Expr) (a : Plan) → steep (Map es a) ≡ steep a
steep-Map es a = search (rules, the_lemmas)

pub steep-Union : (a b : Plan) → steep (Union a b) ≡ max (steep a) (steep b)
steep-Union a b = search (rules, the_lemmas)

pub steep-Join : (k : List Pair) (c : Expr) (a b : Plan)
    → steep (Join k c a b) ≡ max (steep a) (steep b)
steep-Join k c a b = search (rules, the_lemmas)

pub steep-Distinct : (a : Plan) → steep (Distinct a) ≡ steep a
steep-Distinct a = search (rules, the_lemmas)

pub steep-Group : (k : List ℕ) (g : List Agg) (a : Plan) → steep (Group k g a) ≡ steep a + 1
steep-Group k g a = search (rules, the_lemmas)

pub steep-Minus : (a b : Plan) → steep (Minus a b) ≡ max (steep a) (steep b) + 1
steep-Minus a b = search (rules, the_lemmas)

abbrev LagsSo : List (List Kind) → Plan → Type 0
LagsSo ss p = lag_of (shape_of ss p) ≡ steep p

cases : (ss : List (List Kind)) → PlanCases (LagsSo ss)
cases ss = record {
  source = λ i. let s = ap lag_of (shape-Source ss i) in omega (arith, s, steep-Source i);
  filter = λ p a f. let s = ap lag_of (shape-Filter ss p a) in
      omega (arith, s, f, steep-Filter p a);
  mapped = λ es a f. let s = ap lag_of (shape-Map ss es a) in omega (arith, s, f, steep-Map es a);
  union = λ a b f g. let s = ap lag_of (shape-Union ss a b) in
      omega (arith, s, f, g, steep-Union a b);
  join = λ k c a b f g. let s = ap lag_of (shape-Join ss k c a b) in
      omega (arith, s, f, g, steep-Join k c a b);
  distinct = λ a f. let s = ap lag_of (shape-Distinct ss a) in
      omega (arith, s, f, steep-Distinct a);
  group = λ k g a f. let s = ap lag_of (shape-Group ss k g a) in
      omega (arith, s, f, steep-Group k g a);
  minus = λ a b f g. let s = ap lag_of (shape-Minus ss a b) in
      omega (arith, s, f, g, steep-Minus a b);
}

pub lag-steep : (ss : List (List Kind)) (p : Plan) → lag_of (shape_of ss p) ≡ steep p
lag-steep ss p = induct_plan (LagsSo ss) (cases ss) p
