-- What a group gives, and what its tally stands for.
use Rattle.std.specs.Prelude.{ℕ, ◌≡◌, ◌<◌, ◌≤◌, cond, eqb, nat_lt, List, [], map, length}
use Rattle.std.specs.List.{AllByRecursion}
use Rattle.pipes_tuple.specs.Equal.{tuple_eq}
use Rattle.pipes_expr.specs.ExprValue.{Row}
use Rattle.pipes_relation.specs.declared.lists.Agg.{Agg}
use Rattle.pipes_relation.specs.Relations.{with_key, group_row}
use Rattle.pipes_timeline.specs.Rules.{RowBags}
use Rattle.pipes_group.specs.declared.tally.Tally.{Tally}
use Rattle.pipes_group.specs.Parts.{agg_read, PartOf}

-- how often a row is in the answer of a group: once, if it is the group's row
abbrev pub group_gives : List ℕ → List Agg → Row → RowBags → Row → ℕ
group_gives columns aggs k bags x =
    cond (nat_lt 0 (length (with_key columns (bags 0) k)))
    (cond (eqb (length k) (length columns))
    (cond (tuple_eq (group_row columns aggs (bags 0) k) x) 1 0) 0)
    0

-- The tally is that of the rows with the key; no rows come at another port.
pub record GroupTells (columns : List ℕ) (aggs : List Agg) (k : Row) (tally : Tally)
    (bags : RowBags) : Type 0 where
  pub count : tally.count ≡ length (with_key columns (bags 0) k)
  pub aggs_are : map agg_read tally.parts.items ≡ aggs
  pub parts : AllByRecursion (PartOf (with_key columns (bags 0) k)) tally.parts.items
  -- the key of a row has a value for each column
  pub whole : 0 < tally.count → length k ≡ length columns
  pub others : (port : ℕ) → 1 ≤ port → with_key columns (bags port) k ≡ []
