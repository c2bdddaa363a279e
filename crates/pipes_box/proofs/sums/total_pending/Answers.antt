use Rattle.std.proofs.Common.{arith, cond, eqb}
use Rattle.pipes_node.specs.declared.node.Node.{Node}
use Rattle.pipes_node.specs.Nodes.{pends_with}
use Rattle.pipes_node.proofs.Totals.{sum-more}
use Rattle.pipes_box.proofs.sums.total_pending.Goals as goal

pub loop-node-preserved : goal.loop-node-preserved
loop-node-preserved c = record {
  value = omega (
    arith,
    c.loop-node.invariant.value,
    c.pending_at.ensures,
    sum-more (λ (n : Node). cond (eqb n.depth c.args.depth) (pends_with n) 0)
        c.args.nodes.now c.loop-node.node-index c.node-item.result (omega arith) c.node-item.is,
  );
  small = omega (arith, c.loop-node.invariant.small);
}
