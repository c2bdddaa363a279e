use Rattle.std.proofs.Common.{arith}
use Rattle.pipes_box.proofs.Lowering.{lowered-more}
use Rattle.pipes_box.proofs.sums.first_lowered.Goals as goal

pub loop-node-preserved : goal.loop-node-preserved
loop-node-preserved c =
    omega (
      arith,
      c.loop-node.invariant,
      lowered-more c.args.nodes.now c.loop-node.node-index c.node-item.result (omega arith)
          c.node-item.is,
    )
