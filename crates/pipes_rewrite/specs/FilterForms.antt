-- The rules that move filters: `.._to` gives the right form of a left form, and
-- `.._from` the left form of a right form.
-- A form is nothing where the plan isn't of the shape that the rule takes.
use Rattle.std.specs.Prelude.{ℕ, Bool, true, false, List, length, Option, Some, None}
use Rattle.std.specs.Prelude.{if◌then◌else◌}
use Rattle.std.specs.Option.{option_map, option_and_then}
use Rattle.pipes_tuple.specs.declared.value.Kind.{Kind}
use Rattle.pipes_expr.specs.declared.op.Op.{Op}
use Rattle.pipes_expr.specs.declared.op.Op.TheVariants.{And}
use Rattle.pipes_expr.specs.declared.op.Op.TheVariants as op
use Rattle.pipes_expr.specs.declared.expr.Expr.{Expr}
use Rattle.pipes_expr.specs.declared.expr.Expr.TheVariants.{Binary}
use Rattle.pipes_relation.specs.declared.lists.Pair.{Pair}
use Rattle.pipes_plan.specs.declared.plan.Plan.{Plan}
use Rattle.pipes_plan.specs.declared.plan.Plan.TheVariants.{Filter, Map, Union, Join, Distinct}
use Rattle.pipes_plan.specs.declared.plan.Plan.TheVariants.{Group, Minus}
use Rattle.pipes_rewrite.specs.Changes.{raised, lowered, kept_below, column_in, expr_in}
use Rattle.pipes_rewrite.specs.Changes.{expr_changed, is_truth, truth}
use Rattle.pipes_rewrite.specs.Changes.{conjunction}
use Rattle.pipes_rewrite.specs.Nodes.{in_filter, in_map, in_union, in_join, in_distinct, in_group}
use Rattle.pipes_rewrite.specs.Nodes.{in_minus, in_binary}
use Rattle.pipes_rewrite.specs.Widths.{width}
use Rattle.pipes_rewrite.specs.Equalities.{same_expr}

-- the plan, where the test holds
abbrev pub plan_if : Bool → Plan → Option Plan
plan_if true plan = Some plan
plan_if false plan = None

-- filter(p, filter(q, A)) and filter((p and q), A)
abbrev pub filter_merge_to : Plan → Option Plan
filter_merge_to = in_filter (λ p. in_filter (λ q a. Some (Filter (Binary And p q) a)))

-- the two sides of a conjunction
abbrev pub conjuncts : Op → Expr → Expr → Option (Expr × Expr)
conjuncts op.And p q = Some (p, q)
conjuncts _ p q = None

abbrev pub filter_merge_from : Plan → Option Plan
filter_merge_from = in_filter (λ r a. option_map (λ s. Filter s.0 (Filter s.1 a))
    (in_binary conjuncts r))

-- filter(p, filter(q, A)) and filter(q, filter(p, A))
abbrev pub filter_swap_to : Plan → Option Plan
filter_swap_to = in_filter (λ p. in_filter (λ q a. Some (Filter q (Filter p a))))

-- filter(p, union(A, B)) and union(filter(p, A), filter(p, B))
abbrev pub filter_union_to : Plan → Option Plan
filter_union_to = in_filter (λ p. in_union (λ a b. Some (Union (Filter p a) (Filter p b))))

abbrev pub filter_union_from : Plan → Option Plan
filter_union_from = in_union (λ x y. in_filter (λ p a. in_filter (λ q b.
    plan_if (same_expr p q) (Filter p (Union a b))) y) x)

-- filter(p, distinct(A)) and distinct(filter(p, A))
abbrev pub filter_distinct_to : Plan → Option Plan
filter_distinct_to = in_filter (λ p. in_distinct (λ a. Some (Distinct (Filter p a))))

abbrev pub filter_distinct_from : Plan → Option Plan
filter_distinct_from = in_distinct (in_filter (λ p a. Some (Filter p (Distinct a))))

-- filter(p, minus(A, B)) and minus(filter(p, A), filter(p, B))
abbrev pub filter_minus_to : Plan → Option Plan
filter_minus_to = in_filter (λ p. in_minus (λ a b. Some (Minus (Filter p a) (Filter p b))))

abbrev pub filter_minus_from : Plan → Option Plan
filter_minus_from = in_minus (λ x y. in_filter (λ p a. in_filter (λ q b.
    plan_if (same_expr p q) (Filter p (Minus a b))) y) x)

-- filter(p, map(es, A)) and map(es, filter(p[es], A)); back it takes p
abbrev pub filter_map_to : Plan → Option Plan
filter_map_to = in_filter (λ p. in_map (λ es a.
    option_map (λ q. Map es (Filter q a)) (expr_changed (expr_in es) p)))

-- the plan, where the one expression is there and is the other
abbrev pub plan_where : Option Expr → Expr → Plan → Option Plan
plan_where (Some x) y plan = plan_if (same_expr x y) plan
plan_where None y plan = None

abbrev pub filter_map_from : Expr → Plan → Option Plan
filter_map_from p = in_map (λ es. in_filter (λ q a.
    plan_where (expr_changed (expr_in es) p) q (Filter p (Map es a))))

-- filter(p, join(k, c, A, B)) and join(k, c, filter(p, A), B), every column of p below A's width
abbrev pub filter_left_to : List (List Kind) → Plan → Option Plan
filter_left_to ss = in_filter (λ p. in_join (λ k c a b.
    option_map (λ q. Join k c (Filter q a) b) (kept_below (width ss a) p)))

abbrev pub filter_left_from : List (List Kind) → Plan → Option Plan
filter_left_from ss = in_join (λ k c x b. in_filter (λ q a.
    option_map (λ p. Filter p (Join k c a b)) (kept_below (width ss a) q)) x)

-- filter(p, join(k, c, A, B)) and join(k, c, A, filter(down(p, wA), B)), every column of p at least
-- wA, which is A's width
abbrev pub filter_right_to : List (List Kind) → Plan → Option Plan
filter_right_to ss = in_filter (λ p. in_join (λ k c a b.
    option_map (λ q. Join k c a (Filter q b)) (lowered (width ss a) p)))

abbrev pub filter_right_from : List (List Kind) → Plan → Option Plan
filter_right_from ss = in_join (λ k c a. in_filter (λ q b.
    option_map (λ p. Filter p (Join k c a b)) (raised (width ss a) q)))

-- filter(p, join(k, c, A, B)) and join(k, conj(c, p), A, B)
abbrev pub filter_cond_to : Plan → Option Plan
filter_cond_to = in_filter (λ p. in_join (λ k c a b. Some (Join k (conjunction c p) a b)))

-- back: of a condition `(c and p)` the filter takes p; of another but `true` it takes all
abbrev pub filter_out : List Pair → Expr → Plan → Plan → Option (Expr × Expr) → Option Plan
filter_out k c a b (Some s) = Some (Filter s.1 (Join k s.0 a b))
filter_out k c a b None =
    if is_truth c then None else Some (Filter c (Join k truth a b))

abbrev pub filter_cond_from : Plan → Option Plan
filter_cond_from = in_join (λ k c a b. filter_out k c a b (in_binary conjuncts c))

-- filter(p, group(K, g, A)) and group(K, g, filter(p', A)), every column of p below the length of
-- K, p' having column K[i] in place of column i; back it takes p
abbrev pub filter_group_to : Plan → Option Plan
filter_group_to = in_filter (λ p. in_group (λ k g a.
    option_map (λ q. Group k g (Filter q a)) (expr_changed (column_in k) p)))

abbrev pub filter_group_from : Expr → Plan → Option Plan
filter_group_from p = in_group (λ k g. in_filter (λ q a.
    plan_where (expr_changed (column_in k) p) q (Filter p (Group k g a))))

-- filter(true, A) and A
abbrev pub filter_true_to : Plan → Option Plan
filter_true_to = in_filter (λ p a. plan_if (is_truth p) a)

abbrev pub filter_true_from : Plan → Option Plan
filter_true_from a = Some (Filter truth a)
