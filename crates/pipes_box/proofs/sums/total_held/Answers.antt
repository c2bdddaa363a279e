use Rattle.std.proofs.Common.{arith}
use Rattle.pipes_node.specs.declared.node.Node.{Node}
use Rattle.pipes_node.specs.Nodes.{held_in}
use Rattle.pipes_node.proofs.Totals.{sum-more}
use Rattle.pipes_box.proofs.sums.total_held.Goals as goal

pub loop-node-preserved : goal.loop-node-preserved
loop-node-preserved c =
    omega (
      arith,
      c.loop-node.invariant,
      c.held.ensures,
      sum-more (λ (n : Node). held_in n.operator)
          c.args.nodes.now c.loop-node.node-index c.node-item.result (omega arith) c.node-item.is,
    )
