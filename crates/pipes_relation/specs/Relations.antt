-- The operators of relations, on bags as lists.
use Rattle.std.specs.Prelude.{◌≤◌, ℕ, Bool, true, not, ◌&&◌, List, [], ◌∷◌, ◌++◌, map}
use Rattle.std.specs.Prelude.{if◌then◌else◌}
use Rattle.std.specs.List.{filter, flat_map}
use Rattle.std.specs.declared.vec.Vec.{Vec}
use Rattle.std.specs.declared.alloc.Global.{Global}
use Rattle.pipes_tuple.specs.Equal.{value_eq, tuple_eq}
use Rattle.pipes_tuple.specs.Columns.{at_columns}
use Rattle.pipes_expr.specs.declared.expr.Expr.{Expr}
use Rattle.pipes_expr.specs.ExprValue.{Row, column, value_of, passes}
use Rattle.pipes_relation.specs.declared.lists.Pair.{Pair}
use Rattle.pipes_relation.specs.declared.lists.Agg.{Agg}
use Rattle.pipes_relation.specs.Aggregate.{aggregate}

-- a row has 1 to 32 columns
abbrev pub IsWidth : ℕ → Type 0
IsWidth n = (1 ≤ n) × (n ≤ 32)

-- the row of the expressions' values
abbrev pub values_of : List Expr → Row → Row
values_of exprs row = map (λ e. value_of e row) exprs

-- the two columns of each pair are equal
abbrev pub pairs_equal : List Pair → Row → Row → Bool
pairs_equal [] l r = true
pairs_equal (p ∷ ps) l r = value_eq (column l p.left) (column r p.right) && pairs_equal ps l r

-- the pairs are equal, and the condition is true on the concatenation
abbrev pub meets : List Pair → Expr → Row → Row → Bool
meets pairs condition l r = pairs_equal pairs l r && passes condition (l ++ r)

-- the concatenation of two rows, where they meet
abbrev pub joined_row : List Pair → Expr → Row → Row → List Row
joined_row pairs condition l r = if meets pairs condition l r then (l ++ r) ∷ [] else []

-- for each left row in order, for each right row in order
unfoldable pub joined : List Pair → Expr → List Row → List Row → List Row
joined pairs condition ls rs = flat_map (λ l. flat_map (joined_row pairs condition l) rs) ls

-- each row once, at its first place
abbrev pub distinct : List Row → List Row
distinct [] = []
distinct (x ∷ xs) = x ∷ filter (λ y. not (tuple_eq y x)) (distinct xs)

-- the rows without the first that equals t, if there is one
abbrev pub without : Row → List Row → List Row
without t [] = []
without t (x ∷ xs) = if tuple_eq x t then xs else x ∷ without t xs

-- one equal row less for each row of the second list
abbrev pub minus : List Row → List Row → List Row
minus xs [] = xs
minus xs (y ∷ ys) = minus (without y xs) ys

-- the rows with these values in the columns
abbrev pub with_key : List ℕ → List Row → Row → List Row
with_key columns rows key = filter (λ row. tuple_eq (at_columns columns row) key) rows

-- the values in the columns, then the aggregates of the rows that have them
abbrev pub group_row : List ℕ → List Agg → List Row → Row → Row
group_row columns aggs rows key = key ++ map (aggregate (with_key columns rows key)) aggs

-- a row for each tuple of values in the columns, in order of first appearance
unfoldable pub grouped : List ℕ → List Agg → List Row → List Row
grouped columns aggs rows = map (group_row columns aggs rows)
    (distinct (map (at_columns columns) rows))

-- the bags of the sources, as lists
abbrev pub bag_lists : List (Vec Row Global) → List (List Row)
bag_lists bags = map (λ bag. bag.items) bags
