-- How often rows appear, as a map holds it.
use Rattle.std.specs.Prelude.{ℕ, ◌≡◌, ◌-◌, List, unwrap_or}
use Rattle.indexmap.specs.IndexMap.{IndexMap, get}
use Rattle.pipes_tuple.specs.Bag.{count}
use Rattle.pipes_tuple.specs.Equal.{tuple_eq}
use Rattle.pipes_expr.specs.ExprValue.{Row}

module _ {S : Type 0} where
  -- the number that the map has for y
  abbrev pub number_in : IndexMap Row ℕ S → Row → ℕ
  number_in counts y = unwrap_or (get tuple_eq counts y) 0

  -- the map has for each row how much more often it is in the first rows than in the second
  pub record HasCounts (counts : IndexMap Row ℕ S) (rows less : List Row) : Type 0 where
    pub at : (y : Row) → number_in counts y ≡ count y rows - count y less
