use Rattle.std.proofs.Common.{◌≡◌, ◌≤◌, ◌*◌, take}
use Rattle.pipes_node.specs.Nodes.{total_ready}
use Rattle.pipes_node.proofs.port.total_known.Given as goal

abbrev pub invariant-loop-port : goal.invariant-loop-port
invariant-loop-port l = record {
  value : l.known ≡ total_ready (take l.port-index l.ports);
  small : l.known ≤ 65536 * l.port-index;
}
