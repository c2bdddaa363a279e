use Rattle.std.proofs.Common.{◌≡◌, ◌≤◌, ◌*◌, take}
use Rattle.pipes_node.specs.Nodes.{total_ready}
use Rattle.pipes_box.specs.Backlog.{sum_at}
use Rattle.pipes_box.proofs.sums.total_waiting.Given as goal

abbrev pub invariant-loop-node : goal.invariant-loop-node
invariant-loop-node l = record {
  value : l.total ≡ sum_at l.depth (λ n. total_ready n.ports.items) (take l.node-index l.nodes);
  small : l.total ≤ 131072 * l.node-index;
}
