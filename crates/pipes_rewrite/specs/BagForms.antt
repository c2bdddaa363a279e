-- The rules of unions, differences, distinct rows, maps and groups: the right form of a left form,
-- and, named `.._from`, the left form of a right form. A form is nothing where the plan isn't of
-- the shape that the rule takes.
use Rattle.std.specs.Prelude.{ℕ, Bool, true, false, ◌&&◌, List, [], ◌∷◌, Option, Some, None}
use Rattle.std.specs.Option.{option_map}
use Rattle.pipes_expr.specs.declared.expr.Expr.{Expr}
use Rattle.pipes_relation.specs.declared.lists.Agg.{Agg}
use Rattle.pipes_relation.specs.declared.lists.Agg.TheVariants.{Min, Max}
use Rattle.pipes_plan.specs.declared.plan.Plan.{Plan}
use Rattle.pipes_plan.specs.declared.plan.Plan.TheVariants.{Map, Union, Distinct, Group, Minus}
use Rattle.pipes_rewrite.specs.Changes.{expr_in, exprs_changed}
use Rattle.pipes_rewrite.specs.Nodes.{in_map, in_union, in_distinct, in_group, in_minus}
use Rattle.pipes_rewrite.specs.Equalities.{same_exprs}
use Rattle.pipes_rewrite.specs.FilterForms.{plan_if}

-- union(A, B) and union(B, A)
abbrev pub union_commute_to : Plan → Option Plan
union_commute_to = in_union (λ a b. Some (Union b a))

-- union(union(A, B), C) and union(A, union(B, C))
abbrev pub union_assoc_to : Plan → Option Plan
union_assoc_to = in_union (λ x c. in_union (λ a b. Some (Union a (Union b c))) x)

abbrev pub union_assoc_from : Plan → Option Plan
union_assoc_from = in_union (λ a. in_union (λ b c. Some (Union (Union a b) c)))

-- minus(minus(A, B), C) and minus(A, union(B, C))
abbrev pub minus_assoc_to : Plan → Option Plan
minus_assoc_to = in_minus (λ x c. in_minus (λ a b. Some (Minus a (Union b c))) x)

abbrev pub minus_assoc_from : Plan → Option Plan
minus_assoc_from = in_minus (λ a. in_union (λ b c. Some (Minus (Minus a b) c)))

-- distinct(distinct(A)) and distinct(A)
abbrev pub distinct_twice_to : Plan → Option Plan
distinct_twice_to = in_distinct (in_distinct (λ a. Some (Distinct a)))

abbrev pub distinct_twice_from : Plan → Option Plan
distinct_twice_from = in_distinct (λ a. Some (Distinct (Distinct a)))

-- distinct(union(A, B)) and distinct(union(distinct(A), distinct(B)))
abbrev pub distinct_union_to : Plan → Option Plan
distinct_union_to = in_distinct (in_union (λ a b.
    Some (Distinct (Union (Distinct a) (Distinct b)))))

abbrev pub distinct_union_from : Plan → Option Plan
distinct_union_from = in_distinct (in_union (λ x y. in_distinct (λ a. in_distinct (λ b.
    Some (Distinct (Union a b))) y) x))

-- distinct(group(K, g, A)) and group(K, g, A)
abbrev pub distinct_group_to : Plan → Option Plan
distinct_group_to = in_distinct (in_group (λ k g a. Some (Group k g a)))

abbrev pub distinct_group_from : Plan → Option Plan
distinct_group_from = in_group (λ k g a. Some (Distinct (Group k g a)))

-- distinct(map(es, distinct(A))) and distinct(map(es, A))
abbrev pub distinct_map_to : Plan → Option Plan
distinct_map_to = in_distinct (in_map (λ es. in_distinct (λ a. Some (Distinct (Map es a)))))

abbrev pub distinct_map_from : Plan → Option Plan
distinct_map_from = in_distinct (in_map (λ es a. Some (Distinct (Map es (Distinct a)))))

-- map(es, map(fs, A)) and map(es[fs], A); back it takes es and fs
abbrev pub map_merge_to : Plan → Option Plan
map_merge_to = in_map (λ es. in_map (λ fs a.
    option_map (λ gs. Map gs a) (exprs_changed (expr_in fs) es)))

-- the plan, where the one list is there and is the other
abbrev pub plan_where_all : Option (List Expr) → List Expr → Plan → Option Plan
plan_where_all (Some xs) ys plan = plan_if (same_exprs xs ys) plan
plan_where_all None ys plan = None

abbrev pub map_merge_from : List Expr → List Expr → Plan → Option Plan
map_merge_from es fs = in_map (λ gs a.
    plan_where_all (exprs_changed (expr_in fs) es) gs (Map es (Map fs a)))

-- map(es, union(A, B)) and union(map(es, A), map(es, B))
abbrev pub map_union_to : Plan → Option Plan
map_union_to = in_map (λ es. in_union (λ a b. Some (Union (Map es a) (Map es b))))

abbrev pub map_union_from : Plan → Option Plan
map_union_from = in_union (λ x y. in_map (λ es a. in_map (λ fs b.
    plan_if (same_exprs es fs) (Map es (Union a b))) y) x)

-- the least or the greatest value, which copies of a row don't change
abbrev pub is_extreme : Agg → Bool
is_extreme (Min c) = true
is_extreme (Max c) = true
is_extreme _ = false

abbrev pub all_extremes : List Agg → Bool
all_extremes [] = true
all_extremes (g ∷ gs) = is_extreme g && all_extremes gs

-- group(K, g, distinct(A)) and group(K, g, A), every aggregate of g being min or max
abbrev pub group_distinct_to : Plan → Option Plan
group_distinct_to = in_group (λ k g. in_distinct (λ a. plan_if (all_extremes g) (Group k g a)))

abbrev pub group_distinct_from : Plan → Option Plan
group_distinct_from = in_group (λ k g a. plan_if (all_extremes g) (Group k g (Distinct a)))
