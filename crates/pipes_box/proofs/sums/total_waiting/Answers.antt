use Rattle.std.proofs.Common.{arith, ◌≤◌, cond, eqb, length, sym, subst}
use Rattle.pipes_node.specs.declared.node.Node.{Node}
use Rattle.pipes_node.specs.Nodes.{total_ready}
use Rattle.pipes_node.proofs.Totals.{sum-more}
use Rattle.pipes_box.proofs.sums.total_waiting.Goals as goal

pub ready_at-requires : goal.ready_at-requires
ready_at-requires c = subst (λ (n : Node). length n.ports.items ≤ 2) (sym c.node-item.is)
    (c.requires c.loop-node.node-index c.node-item.result (omega arith))

pub loop-node-preserved : goal.loop-node-preserved
loop-node-preserved c = record {
  value = omega (
    arith,
    c.loop-node.invariant.value,
    c.ready_at.ensures.value,
    sum-more (λ (n : Node). cond (eqb n.depth c.args.depth) (total_ready n.ports.items) 0)
        c.args.nodes.now c.loop-node.node-index c.node-item.result (omega arith) c.node-item.is,
  );
  small = omega (arith, c.loop-node.invariant.small, c.ready_at.ensures.bound);
}
