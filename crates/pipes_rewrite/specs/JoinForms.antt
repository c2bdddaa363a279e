-- The rules that move joins: `.._to` gives the right form of a left form, and
-- `.._from` the left form of a right form.
-- A form is nothing where the plan isn't of the shape that the rule takes.
use Rattle.std.specs.Prelude.{ℕ, ◌-◌, ◌&&◌, List, ◌++◌, map, Option, Some, None}
use Rattle.std.specs.Prelude.{if◌then◌else◌, nat_lt, nat_le}
use Rattle.std.specs.List.{filter, range_with_len}
use Rattle.std.specs.Option.{option_map}
use Rattle.pipes_tuple.specs.declared.value.Kind.{Kind}
use Rattle.pipes_expr.specs.declared.expr.Expr.{Expr}
use Rattle.pipes_expr.specs.declared.expr.Expr.TheVariants.{Col}
use Rattle.pipes_relation.specs.declared.lists.Pair.{Pair}
use Rattle.pipes_plan.specs.declared.plan.Plan.{Plan}
use Rattle.pipes_plan.specs.declared.plan.Plan.TheVariants.{Map, Union, Join, Distinct}
use Rattle.pipes_rewrite.specs.Changes.{sum_32, raised, turned, truth}
use Rattle.pipes_rewrite.specs.Changes.{conjunction}
use Rattle.pipes_rewrite.specs.Nodes.{in_map, in_union, in_join, in_distinct}
use Rattle.pipes_rewrite.specs.Widths.{width}
use Rattle.pipes_rewrite.specs.Equalities.{same_expr, same_exprs, same_pairs, same_plan}
use Rattle.pipes_rewrite.specs.FilterForms.{plan_if}

-- ---- the sides exchanged

-- the pairs of a join whose sides are exchanged
abbrev pub swapped : List Pair → List Pair
swapped pairs = map (λ p. record { left = p.right; right = p.left }) pairs

-- so many columns, from this one on
abbrev pub columns_from : ℕ → ℕ → List Expr
columns_from start count = map Col (range_with_len start count)

-- the columns of a left and a right side of these widths, the right side's being first
abbrev pub restored : ℕ → ℕ → List Expr
restored left right = columns_from right left ++ columns_from 0 right

-- join(k, c, A, B) and map(es, join(swap(k), c', B, A)), es being the columns in their old order,
-- and c' the condition c with the columns at their new places
abbrev pub join_commute_to : List (List Kind) → Plan → Option Plan
join_commute_to ss = in_join (λ k c a b.
    option_map (λ d. Map (restored (width ss a) (width ss b)) (Join (swapped k) d b a))
    (turned (width ss a) (width ss b) c))

abbrev pub join_commute_from : List (List Kind) → Plan → Option Plan
join_commute_from ss = in_map (λ es. in_join (λ k c b a.
    if same_exprs es (restored (width ss a) (width ss b))
    then option_map (λ d. Join (swapped k) d a b)
    (turned (width ss b) (width ss a) c)
    else None))

-- ---- joins of joins

-- the pairs that tie B and C, once A has the width given
abbrev pub inner_pairs : ℕ → List Pair → List Pair
inner_pairs a k = map (λ p. record { left = p.left - a; right = p.right })
    (filter (λ p. nat_le a p.left) k)

-- the pairs of A and C, whose columns follow the b columns of B, once A has the width a
abbrev pub beyond_pairs : ℕ → ℕ → List Pair → List Pair
beyond_pairs a b k = map (λ p. record { left = p.left; right = sum_32 b p.right })
    (filter (λ p. nat_lt p.left a) k)

-- the pairs of A and B, and then those of A and C
abbrev pub outer_pairs : ℕ → ℕ → List Pair → List Pair → List Pair
outer_pairs a b inner k = inner ++ beyond_pairs a b k

-- join(k1, c1, join(k2, c2, A, B), C) becomes join(k, conj(c2, c1), A, join(n, true, B, C)), n
-- having the pairs of k1 with a column of B, and k those of k2 and then the other ones of k1
abbrev pub join_assoc_to : List (List Kind) → Plan → Option Plan
join_assoc_to ss = in_join (λ k1 c1 x c. in_join (λ k2 c2 a b.
    Some (Join (outer_pairs (width ss a) (width ss b) k2 k1) (conjunction c2 c1) a
    (Join (inner_pairs (width ss a) k1) truth b c))) x)

-- the pairs with a column of B, whose width is given
abbrev pub near_pairs : ℕ → List Pair → List Pair
near_pairs b k = filter (λ p. nat_lt p.right b) k

-- the pairs of B and C, whose left columns follow the a columns of A
abbrev pub raised_pairs : ℕ → List Pair → List Pair
raised_pairs a inner = map (λ p. record { left = sum_32 p.left a; right = p.right }) inner

-- the pairs of A and C, once B has the width given
abbrev pub lowered_pairs : ℕ → List Pair → List Pair
lowered_pairs b k = map (λ p. record { left = p.left; right = p.right - b })
    (filter (λ p. nat_le b p.right) k)

-- the pairs of B and C, and then those of A and C
abbrev pub far_pairs : ℕ → ℕ → List Pair → List Pair → List Pair
far_pairs a b inner k = raised_pairs a inner ++ lowered_pairs b k

-- join(k, c, A, join(n, d, B, C)) becomes join(k1, conj(c, up(d, wA)), join(k2, true, A, B), C), k2
-- having the pairs of k with a column of B, and k1 those of n and then the other ones of k
abbrev pub join_assoc_from : List (List Kind) → Plan → Option Plan
join_assoc_from ss = in_join (λ k c a y. in_join (λ n d b z.
    option_map (λ e. Join (far_pairs (width ss a) (width ss b) n k) (conjunction c e)
    (Join (near_pairs (width ss b) k) truth a b) z) (raised (width ss a) d)) y)

-- ---- joins over unions and under distinct

-- join(k, c, union(A, B), C) and union(join(k, c, A, C), join(k, c, B, C))
abbrev pub join_union_to : Plan → Option Plan
join_union_to = in_join (λ k c x z. in_union (λ a b.
    Some (Union (Join k c a z) (Join k c b z))) x)

abbrev pub join_union_from : Plan → Option Plan
join_union_from = in_union (λ x y. in_join (λ k c a z. in_join (λ l d b w.
    plan_if (same_pairs k l && same_expr c d && same_plan z w) (Join k c (Union a b) z)) y) x)

-- join(k, c, A, union(B, C)) and union(join(k, c, A, B), join(k, c, A, C))
abbrev pub join_union_right_to : Plan → Option Plan
join_union_right_to = in_join (λ k c a y. in_union (λ b z.
    Some (Union (Join k c a b) (Join k c a z))) y)

abbrev pub join_union_right_from : Plan → Option Plan
join_union_right_from = in_union (λ x y. in_join (λ k c a b. in_join (λ l d w z.
    plan_if (same_pairs k l && same_expr c d && same_plan a w) (Join k c a (Union b z))) y) x)

-- distinct(join(k, c, A, B)) and join(k, c, distinct(A), distinct(B))
abbrev pub distinct_join_to : Plan → Option Plan
distinct_join_to = in_distinct (in_join (λ k c a b. Some (Join k c (Distinct a) (Distinct b))))

abbrev pub distinct_join_from : Plan → Option Plan
distinct_join_from = in_join (λ k c x y. in_distinct (λ a. in_distinct (λ b.
    Some (Distinct (Join k c a b))) y) x)
