-- What holds of each node of one kind holds of each plan that a function takes apart as such a
-- node.
use Rattle.std.proofs.Common.{◌≡◌, ℕ, List, sym, subst, Option, Some, None}
use Rattle.pipes_expr.specs.declared.op.Op.{Op}
use Rattle.pipes_expr.specs.declared.expr.Expr.{Expr, out-Expr, roll-Expr, roll-out-Expr}
use Rattle.pipes_expr.specs.declared.expr.Expr.TheOpen.{Expr-F}
use Rattle.pipes_expr.specs.declared.expr.Expr.TheOpen as f
use Rattle.pipes_expr.specs.declared.expr.Expr.TheVariants.{Binary, rolls-Binary}
use Rattle.pipes_relation.specs.declared.lists.Pair.{Pair}
use Rattle.pipes_relation.specs.declared.lists.Agg.{Agg}
use Rattle.pipes_plan.specs.declared.plan.Plan.{Plan, out-Plan, roll-Plan, roll-out-Plan}
use Rattle.pipes_plan.specs.declared.plan.Plan.TheOpen.{Plan-F}
use Rattle.pipes_plan.specs.declared.plan.Plan.TheOpen as o
use Rattle.pipes_plan.specs.declared.plan.Plan.TheVariants.{Filter, Map, Union, Join, Distinct}
use Rattle.pipes_plan.specs.declared.plan.Plan.TheVariants.{Group, Minus, rolls-Filter, rolls-Map}
use Rattle.pipes_plan.specs.declared.plan.Plan.TheVariants.{rolls-Union, rolls-Join, rolls-Distinct}
use Rattle.pipes_plan.specs.declared.plan.Plan.TheVariants.{rolls-Group, rolls-Minus}
use Rattle.pipes_rewrite.specs.Nodes.{filter_parts, in_filter, map_parts, in_map, union_parts}
use Rattle.pipes_rewrite.specs.Nodes.{in_union, join_parts, in_join, distinct_parts, in_distinct}
use Rattle.pipes_rewrite.specs.Nodes.{group_parts, in_group, minus_parts, in_minus, binary_parts}
use Rattle.pipes_rewrite.specs.Nodes.{in_binary}

module _ {X : Type 0} (P : Plan → Type 0) (x : X) where
  filter_layer : (k : Expr → Plan → Option X)
      → ((p : Expr) (a : Plan) → k p a ≡ Some x → P (Filter p a))
      → (y : Plan-F Plan) → filter_parts k y ≡ Some x → P (roll-Plan y)
  filter_layer k h (o.Source i) e = cc
  filter_layer k h (o.Filter p a) e = subst P (sym (rolls-Filter p a)) (h p a e)
  filter_layer k h (o.Map es a) e = cc
  filter_layer k h (o.Union a b) e = cc
  filter_layer k h (o.Join pairs c a b) e = cc
  filter_layer k h (o.Distinct a) e = cc
  filter_layer k h (o.Group columns g a) e = cc
  filter_layer k h (o.Minus a b) e = cc

  pub of_filter : (k : Expr → Plan → Option X)
      → ((p : Expr) (a : Plan) → k p a ≡ Some x → P (Filter p a))
      → (plan : Plan) → in_filter k plan ≡ Some x → P plan
  of_filter k h plan e = subst P (roll-out-Plan plan) (filter_layer k h (out-Plan plan) e)

  map_layer : (k : List Expr → Plan → Option X)
      → ((es : List Expr) (a : Plan) → k es a ≡ Some x → P (Map es a))
      → (y : Plan-F Plan) → map_parts k y ≡ Some x → P (roll-Plan y)
  map_layer k h (o.Source i) e = cc
  map_layer k h (o.Filter p a) e = cc
  map_layer k h (o.Map es a) e = subst P (sym (rolls-Map es a)) (h es a e)
  map_layer k h (o.Union a b) e = cc
  map_layer k h (o.Join pairs c a b) e = cc
  map_layer k h (o.Distinct a) e = cc
  map_layer k h (o.Group columns g a) e = cc
  map_layer k h (o.Minus a b) e = cc

  pub of_map : (k : List Expr → Plan → Option X)
      → ((es : List Expr) (a : Plan) → k es a ≡ Some x → P (Map es a))
      → (plan : Plan) → in_map k plan ≡ Some x → P plan
  of_map k h plan e = subst P (roll-out-Plan plan) (map_layer k h (out-Plan plan) e)

  union_layer : (k : Plan → Plan → Option X)
      → ((a b : Plan) → k a b ≡ Some x → P (Union a b))
      → (y : Plan-F Plan) → union_parts k y ≡ Some x → P (roll-Plan y)
  union_layer k h (o.Source i) e = cc
  union_layer k h (o.Filter p a) e = cc
  union_layer k h (o.Map es a) e = cc
  union_layer k h (o.Union a b) e = subst P (sym (rolls-Union a b)) (h a b e)
  union_layer k h (o.Join pairs c a b) e = cc
  union_layer k h (o.Distinct a) e = cc
  union_layer k h (o.Group columns g a) e = cc
  union_layer k h (o.Minus a b) e = cc

  pub of_union : (k : Plan → Plan → Option X)
      → ((a b : Plan) → k a b ≡ Some x → P (Union a b))
      → (plan : Plan) → in_union k plan ≡ Some x → P plan
  of_union k h plan e = subst P (roll-out-Plan plan) (union_layer k h (out-Plan plan) e)

  join_layer : (k : List Pair → Expr → Plan → Plan → Option X)
      → ((pairs : List Pair) (c : Expr) (a b : Plan) → k pairs c a b ≡ Some x
      → P (Join pairs c a b))
      → (y : Plan-F Plan) → join_parts k y ≡ Some x → P (roll-Plan y)
  join_layer k h (o.Source i) e = cc
  join_layer k h (o.Filter p a) e = cc
  join_layer k h (o.Map es a) e = cc
  join_layer k h (o.Union a b) e = cc
  join_layer k h (o.Join pairs c a b) e = subst P (sym (rolls-Join pairs c a b)) (h pairs c a b e)
  join_layer k h (o.Distinct a) e = cc
  join_layer k h (o.Group columns g a) e = cc
  join_layer k h (o.Minus a b) e = cc

  pub of_join : (k : List Pair → Expr → Plan → Plan → Option X)
      → ((pairs : List Pair) (c : Expr) (a b : Plan) → k pairs c a b ≡ Some x
      → P (Join pairs c a b))
      → (plan : Plan) → in_join k plan ≡ Some x → P plan
  of_join k h plan e = subst P (roll-out-Plan plan) (join_layer k h (out-Plan plan) e)

  distinct_layer : (k : Plan → Option X)
      → ((a : Plan) → k a ≡ Some x → P (Distinct a))
      → (y : Plan-F Plan) → distinct_parts k y ≡ Some x → P (roll-Plan y)
  distinct_layer k h (o.Source i) e = cc
  distinct_layer k h (o.Filter p a) e = cc
  distinct_layer k h (o.Map es a) e = cc
  distinct_layer k h (o.Union a b) e = cc
  distinct_layer k h (o.Join pairs c a b) e = cc
  distinct_layer k h (o.Distinct a) e = subst P (sym (rolls-Distinct a)) (h a e)
  distinct_layer k h (o.Group columns g a) e = cc
  distinct_layer k h (o.Minus a b) e = cc

  pub of_distinct : (k : Plan → Option X)
      → ((a : Plan) → k a ≡ Some x → P (Distinct a))
      → (plan : Plan) → in_distinct k plan ≡ Some x → P plan
  of_distinct k h plan e = subst P (roll-out-Plan plan) (distinct_layer k h (out-Plan plan) e)

  group_layer : (k : List ℕ → List Agg → Plan → Option X)
      → ((columns : List ℕ) (g : List Agg) (a : Plan) → k columns g a ≡ Some x
      → P (Group columns g a))
      → (y : Plan-F Plan) → group_parts k y ≡ Some x → P (roll-Plan y)
  group_layer k h (o.Source i) e = cc
  group_layer k h (o.Filter p a) e = cc
  group_layer k h (o.Map es a) e = cc
  group_layer k h (o.Union a b) e = cc
  group_layer k h (o.Join pairs c a b) e = cc
  group_layer k h (o.Distinct a) e = cc
  group_layer k h (o.Group columns g a) e = subst P (sym (rolls-Group columns g a))
      (h columns g a e)
  group_layer k h (o.Minus a b) e = cc

  pub of_group : (k : List ℕ → List Agg → Plan → Option X)
      → ((columns : List ℕ) (g : List Agg) (a : Plan) → k columns g a ≡ Some x
      → P (Group columns g a))
      → (plan : Plan) → in_group k plan ≡ Some x → P plan
  of_group k h plan e = subst P (roll-out-Plan plan) (group_layer k h (out-Plan plan) e)

  minus_layer : (k : Plan → Plan → Option X)
      → ((a b : Plan) → k a b ≡ Some x → P (Minus a b))
      → (y : Plan-F Plan) → minus_parts k y ≡ Some x → P (roll-Plan y)
  minus_layer k h (o.Source i) e = cc
  minus_layer k h (o.Filter p a) e = cc
  minus_layer k h (o.Map es a) e = cc
  minus_layer k h (o.Union a b) e = cc
  minus_layer k h (o.Join pairs c a b) e = cc
  minus_layer k h (o.Distinct a) e = cc
  minus_layer k h (o.Group columns g a) e = cc
  minus_layer k h (o.Minus a b) e = subst P (sym (rolls-Minus a b)) (h a b e)

  pub of_minus : (k : Plan → Plan → Option X)
      → ((a b : Plan) → k a b ≡ Some x → P (Minus a b))
      → (plan : Plan) → in_minus k plan ≡ Some x → P plan
  of_minus k h plan e = subst P (roll-out-Plan plan) (minus_layer k h (out-Plan plan) e)

module _ {X : Type 0} (P : Expr → Type 0) (x : X) where
  binary_layer : (k : Op → Expr → Expr → Option X)
      → ((p : Op) (a b : Expr) → k p a b ≡ Some x → P (Binary p a b))
      → (y : Expr-F Expr) → binary_parts k y ≡ Some x → P (roll-Expr y)
  binary_layer k h (f.Binary p a b) e = subst P (sym (rolls-Binary p a b)) (h p a b e)
  binary_layer k h (f.Col i) e = cc
  binary_layer k h (f.Literal v) e = cc
  binary_layer k h (f.Not a) e = cc

  pub of_binary : (k : Op → Expr → Expr → Option X)
      → ((p : Op) (a b : Expr) → k p a b ≡ Some x → P (Binary p a b))
      → (expr : Expr) → in_binary k expr ≡ Some x → P expr
  of_binary k h expr e = subst P (roll-out-Expr expr) (binary_layer k h (out-Expr expr) e)
