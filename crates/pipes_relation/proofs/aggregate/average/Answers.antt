use Rattle.std.proofs.Common.{arith, length}
use Rattle.pipes_relation.specs.Aggregate.{exact_sum}
use Rattle.pipes_relation.proofs.Sums.{average_is, positive}
use Rattle.pipes_relation.proofs.aggregate.average.Goals as goal

pub returns : goal.returns
returns c =
    average_is (length c.args.rows.now) c.exact_sum.result c.div_euclid.result
    (exact_sum c.args.column c.args.rows.now) (positive (length c.args.rows.now)
    c.if-is_empty.ensures) (omega arith) c.exact_sum.ensures.fits c.exact_sum.ensures.value
    c.div_euclid.ensures
