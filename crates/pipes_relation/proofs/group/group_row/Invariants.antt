use Rattle.std.proofs.Common.{◌≡◌, ◌++◌, map, take}
use Rattle.pipes_relation.specs.Aggregate.{aggregate}
use Rattle.pipes_relation.proofs.group.group_row.Given as goal

abbrev pub invariant-loop-value : goal.invariant-loop-value
invariant-loop-value l = l.values.items ≡ take l.value-index l.key

abbrev pub invariant-loop-agg : goal.invariant-loop-agg
invariant-loop-agg l = l.values.items ≡ l.key ++ map (aggregate l.rows) (take l.agg-index l.aggs)
