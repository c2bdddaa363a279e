-- The parts of a plan's node, for a function that takes those of one kind of node: nothing where
-- the plan is another node.
use Rattle.std.specs.Prelude.{ℕ, List, Option, None}
use Rattle.pipes_relation.specs.declared.lists.Pair.{Pair}
use Rattle.pipes_relation.specs.declared.lists.Agg.{Agg}
use Rattle.pipes_expr.specs.declared.expr.Expr.{Expr, out-Expr}
use Rattle.pipes_expr.specs.declared.expr.Expr.TheOpen as e
use Rattle.pipes_expr.specs.declared.op.Op.{Op}
use Rattle.pipes_plan.specs.declared.plan.Plan.{Plan, out-Plan}
use Rattle.pipes_plan.specs.declared.plan.Plan.TheOpen.{Plan-F, Source, Filter, Map, Union, Join}
use Rattle.pipes_plan.specs.declared.plan.Plan.TheOpen.{Distinct, Group, Minus}

module _ {X : Type 0} where
  abbrev pub filter_parts : (Expr → Plan → Option X) → Plan-F Plan → Option X
  filter_parts k (Filter p a) = k p a
  filter_parts k _ = None

  abbrev pub in_filter : (Expr → Plan → Option X) → Plan → Option X
  in_filter k plan = filter_parts k (out-Plan plan)

  abbrev pub map_parts : (List Expr → Plan → Option X) → Plan-F Plan → Option X
  map_parts k (Map es a) = k es a
  map_parts k _ = None

  abbrev pub in_map : (List Expr → Plan → Option X) → Plan → Option X
  in_map k plan = map_parts k (out-Plan plan)

  abbrev pub union_parts : (Plan → Plan → Option X) → Plan-F Plan → Option X
  union_parts k (Union a b) = k a b
  union_parts k _ = None

  abbrev pub in_union : (Plan → Plan → Option X) → Plan → Option X
  in_union k plan = union_parts k (out-Plan plan)

  abbrev pub join_parts : (List Pair → Expr → Plan → Plan → Option X) → Plan-F Plan → Option X
  join_parts k (Join pairs c a b) = k pairs c a b
  join_parts k _ = None

  abbrev pub in_join : (List Pair → Expr → Plan → Plan → Option X) → Plan → Option X
  in_join k plan = join_parts k (out-Plan plan)

  abbrev pub distinct_parts : (Plan → Option X) → Plan-F Plan → Option X
  distinct_parts k (Distinct a) = k a
  distinct_parts k _ = None

  abbrev pub in_distinct : (Plan → Option X) → Plan → Option X
  in_distinct k plan = distinct_parts k (out-Plan plan)

  abbrev pub group_parts : (List ℕ → List Agg → Plan → Option X) → Plan-F Plan → Option X
  group_parts k (Group columns aggs a) = k columns aggs a
  group_parts k _ = None

  abbrev pub in_group : (List ℕ → List Agg → Plan → Option X) → Plan → Option X
  in_group k plan = group_parts k (out-Plan plan)

  abbrev pub minus_parts : (Plan → Plan → Option X) → Plan-F Plan → Option X
  minus_parts k (Minus a b) = k a b
  minus_parts k _ = None

  abbrev pub in_minus : (Plan → Plan → Option X) → Plan → Option X
  in_minus k plan = minus_parts k (out-Plan plan)

  abbrev pub binary_parts : (Op → Expr → Expr → Option X) → e.Expr-F Expr → Option X
  binary_parts k (e.Binary o a b) = k o a b
  binary_parts k _ = None

  -- the parts of an expression with two sides
  abbrev pub in_binary : (Op → Expr → Expr → Option X) → Expr → Option X
  in_binary k x = binary_parts k (out-Expr x)
