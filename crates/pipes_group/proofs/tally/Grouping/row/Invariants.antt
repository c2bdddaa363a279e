use Rattle.std.proofs.Common.{◌≡◌, ◌++◌, List, map, take, length}
use Rattle.std.specs.List.{AllByRecursion}
use Rattle.pipes_expr.specs.ExprValue.{Row}
use Rattle.pipes_relation.specs.Aggregate.{aggregate}
use Rattle.pipes_group.specs.Parts.{agg_read, PartOf}
use Rattle.pipes_group.proofs.tally.Grouping.row.Given as goal

abbrev pub invariant-loop-value : goal.invariant-loop-value
invariant-loop-value l = l.values.items ≡ take l.value-index l.key

abbrev pub invariant-loop-part : goal.invariant-loop-part
invariant-loop-part l = (rows : List Row) → AllByRecursion (PartOf rows) l.parts
    → l.tally.count ≡ length rows
    → l.values.items ≡ l.key ++ map (aggregate rows) (map agg_read (take l.part-index l.parts))
