use Rattle.std.proofs.Common.{◌≡◌, None, arith}
use Rattle.pipes_tuple.specs.Columns.{missing_column}
use Rattle.pipes_tuple.proofs.Columns.{length-at_columns, HasColumns-none_missing}
use Rattle.pipes_tuple.proofs.tuple.Tuple.project.Goals as goal

pub invariant_of-result : goal.invariant_of-result
invariant_of-result c =
    let columns = c.as_slice-columns.result.now in
    let values = c.as_slice-2.result.now in
    let none : missing_column columns values ≡ None = grind arith in
    let many = length-at_columns columns values (HasColumns-none_missing columns values none) in
    let made = c.in_ok-values.ensures in
    grind arith
