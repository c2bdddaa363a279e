use Rattle.std.proofs.Common.{◌≡◌, [], map, take}
use Rattle.std.specs.List.{AllByRecursion}
use Rattle.pipes_group.specs.Parts.{agg_read, PartOf}
use Rattle.pipes_group.proofs.tally.Grouping.no_parts.Given as goal

abbrev pub invariant-loop-agg : goal.invariant-loop-agg
invariant-loop-agg l = record {
  aggs : map agg_read l.parts.items ≡ take l.agg-index l.aggs;
  none : AllByRecursion (PartOf []) l.parts.items;
}
