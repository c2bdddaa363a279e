use Rattle.std.proofs.Common.{◌≡◌, ◌≤◌, ◌*◌, take}
use Rattle.pipes_box.specs.Backlog.{sum_at}
use Rattle.pipes_node.specs.Nodes.{pends_with}
use Rattle.pipes_box.proofs.sums.total_pending.Given as goal

abbrev pub invariant-loop-node : goal.invariant-loop-node
invariant-loop-node l = record {
  value : l.total ≡ sum_at l.depth pends_with (take l.node-index l.nodes);
  small : l.total ≤ 18446744073709551615 * l.node-index;
}
