use Rattle.std.proofs.Common.{◌≡◌, ◌-◌, [], take}
use Rattle.csv.specs.Records.{fields_of, field_count}
use Rattle.pipes_line.proofs.quoted.copy_fields.Given as goal

abbrev pub invariant-fields : goal.invariant-fields
invariant-fields l = record {
  closed : l.copied.closed ≡ take l.i (fields_of l.row);
  last : l.copied.last ≡ [];
}

abbrev pub decreases-fields : goal.decreases-fields
decreases-fields l = field_count l.row - l.i
