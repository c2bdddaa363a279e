use Rattle.std.proofs.Common.{length, arith}
use Rattle.pipes_group.proofs.Tallies.{columns_all}
use Rattle.pipes_group.proofs.tally.has_columns.Goals as goal

pub returns : goal.returns
returns c =
    columns_all c.args.columns.now (length c.args.tuple.now) c.loop-column.column-index
    (omega arith) c.loop-column.invariant
