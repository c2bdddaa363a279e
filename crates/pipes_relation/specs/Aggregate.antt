-- The aggregates of the rows of a group, which isn't empty.
use Rattle.std.specs.Prelude.{ℕ, ℤ, pos, negsuc, ◌+ℤ◌, ◌*◌, ◌<◌, ◌≤◌, List, [], ◌∷◌, length, map}
use Rattle.std.specs.Prelude.{fold, if◌then◌else◌}
use Rattle.std.specs.Int.{saturate_signed, w64, int_div_euclid}
use Rattle.std.specs.Ordering.{is_lt}
use Rattle.pipes_tuple.specs.declared.value.Value.{Value}
use Rattle.pipes_tuple.specs.declared.value.Value.TheVariants as value
use Rattle.pipes_tuple.specs.Order.{value_cmp}
use Rattle.pipes_relation.specs.declared.lists.Agg.{Agg}
use Rattle.pipes_relation.specs.declared.lists.Agg.TheVariants.{Count, Sum, Min, Max, Avg}
use Rattle.pipes_expr.specs.ExprValue.{Row, column, no_value}

abbrev pub number : Value → ℤ
number (value.Int n) = n
number _ = pos 0

-- the exact sum of a column
abbrev pub exact_sum : ℕ → List Row → ℤ
exact_sum c [] = pos 0
exact_sum c (row ∷ rows) = number (column row c) +ℤ exact_sum c rows

-- the smaller and the greater of two values
abbrev pub smaller : Value → Value → Value
smaller a b = if is_lt (value_cmp b a) then b else a

abbrev pub greater : Value → Value → Value
greater a b = if is_lt (value_cmp a b) then b else a

abbrev pub least_value : List Value → Value
least_value [] = no_value
least_value (v ∷ vs) = fold smaller v vs

abbrev pub greatest_value : List Value → Value
greatest_value [] = no_value
greatest_value (v ∷ vs) = fold greater v vs

abbrev pub values_at : ℕ → List Row → List Value
values_at c rows = map (λ row. column row c) rows

-- the number of rows and the exact sum are clamped once, and the average is rounded down
abbrev pub aggregate : List Row → Agg → Value
aggregate rows Count = value.Int (saturate_signed w64 (pos (length rows)))
aggregate rows (Sum c) = value.Int (saturate_signed w64 (exact_sum c rows))
aggregate rows (Min c) = least_value (values_at c rows)
aggregate rows (Max c) = greatest_value (values_at c rows)
aggregate rows (Avg c) = value.Int (int_div_euclid (exact_sum c rows) (pos (length rows)))

-- the integer is at least minus the one and at most the other
abbrev pub Between : ℕ → ℕ → ℤ → Type 0
Between low high (pos a) = a ≤ high
Between low high (negsuc a) = a < low

-- the bounds of a sum of n integers of 64 bits
abbrev pub FitsRows : ℕ → ℤ → Type 0
FitsRows n = Between (9223372036854775808 * n) (9223372036854775807 * n)
