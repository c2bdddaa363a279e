use Rattle.std.proofs.Common.{rules, arith, FitsSigned}
use Rattle.std.specs.Int.{w64}
use Rattle.pipes_relation.proofs.Sums.{sum_more, added_is}
use Rattle.pipes_relation.proofs.aggregate.exact_sum.Goals as goal

pub loop-row-preserved : goal.loop-row-preserved
loop-row-preserved c =
    let x : FitsSigned w64 c.int_at.result = search rules in
    sum_more c.args.column c.args.rows.now c.loop-row.row-index c.row-item.result _ _
    c.int_at.result (omega arith) c.row-item.is c.loop-row.invariant c.int_at.ensures.value x
    (added_is c.loop-row.row-index _ c.int_at.result c.from-sum.result (omega arith)
    c.loop-row.invariant.fits x c.from-sum.ensures)
