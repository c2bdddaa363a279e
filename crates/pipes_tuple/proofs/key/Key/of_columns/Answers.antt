use Rattle.std.proofs.Common.{arith}
use Rattle.pipes_tuple.proofs.Columns.{length-at_columns-le}
use Rattle.pipes_tuple.proofs.key.Key.of_columns.Goals as goal

pub invariant_of-result : goal.invariant_of-result
invariant_of-result c =
    let few = length-at_columns-le c.args.cols.now c.args.values.now in
    grind arith
