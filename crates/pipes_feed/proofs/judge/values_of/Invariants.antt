use Rattle.std.proofs.Common.{◌≡◌, length, drop}
use Rattle.pipes_line.specs.Fields.{fields_in}
use Rattle.pipes_feed.specs.Judged.{field_values}
use Rattle.pipes_feed.proofs.Columns.{SoFar}
use Rattle.pipes_feed.proofs.judge.values_of.Given as goal

abbrev pub invariant-columns : goal.invariant-columns
invariant-columns l = record {
  count : length l.values.items ≡ l.column;
  known : SoFar l.values.items l.column l.schema (drop 1 (fields_in l.fields l.line))
      (field_values 0 l.schema (drop 1 (fields_in l.fields l.line)));
}
