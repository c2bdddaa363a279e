-- How often each value of a column is there. Only private functions use these.
use Rattle.std.specs.Prelude.{ℕ, ◌≡◌, ◌<◌, ◌+◌, ◌-◌, cond, List, Some}
use Rattle.std.specs.List.{count_by}
use Rattle.std.specs.BTreeMap.{BTreeMap, get}
use Rattle.std.specs.Map.{count_at}
use Rattle.pipes_tuple.specs.declared.value.Value.{Value}
use Rattle.pipes_tuple.specs.Equal.{value_eq}
use Rattle.pipes_tuple.specs.Order.{value_cmp}
use Rattle.pipes_expr.specs.ExprValue.{Row}
use Rattle.pipes_relation.specs.Aggregate.{values_at}

-- how many of the rows have the value in the column
abbrev pub value_count : ℕ → List Row → Value → ℕ
value_count c rows v = count_by (λ w. value_eq w v) (values_at c rows)

-- how often the map has the value
abbrev pub found_count : BTreeMap Value ℕ → Value → ℕ
found_count values v = count_at (get value_cmp values) v

-- a value that the map has is there
abbrev pub NoneGone : BTreeMap Value ℕ → Type 0
NoneGone values = (v : Value) (n : ℕ) → get value_cmp values v ≡ Some n → 0 < n

-- The map has each value of the column, as often as it is there.
pub record HasValues (values : BTreeMap Value ℕ) (c : ℕ) (rows : List Row) : Type 0 where
  pub counts : (v : Value) → found_count values v ≡ value_count c rows v
  pub there : NoneGone values

-- the value is there once more
pub record CountsIn (value : Value) (old new : BTreeMap Value ℕ) : Type 0 where
  pub counts : (v : Value) → found_count new v ≡ cond (value_eq value v) 1 0 + found_count old v
  pub there : NoneGone old → NoneGone new

-- the value is there once less
pub record CountsOut (value : Value) (old new : BTreeMap Value ℕ) : Type 0 where
  pub counts : (v : Value) → found_count new v ≡ found_count old v - cond (value_eq value v) 1 0
  pub there : NoneGone old → NoneGone new
