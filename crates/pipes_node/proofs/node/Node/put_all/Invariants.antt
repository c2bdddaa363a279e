use Rattle.std.proofs.Common.{◌≡◌, ◌+◌, length}
use Rattle.pipes_link.specs.Ends.{sent, spare}
use Rattle.pipes_node.specs.Nodes.{NodeMoves, NodeStands}
use Rattle.pipes_node.proofs.node.Node.put_all.Given as goal

abbrev pub invariant-loop : goal.invariant-loop
invariant-loop l = record {
  moves : NodeMoves l.fn.self l.self;
  stands : NodeStands l.fn.self → NodeStands l.self;
  put : length l.fn.self.pending.items ≡ length l.self.pending.items + l.counter;
  sent : length (sent l.self.outlet) ≡ length (sent l.fn.self.outlet) + l.counter;
  room : l.room ≡ spare l.self.outlet + l.counter;
  going : l.self.failed ≡ l.fn.self.failed;
  operator : l.self.operator ≡ l.fn.self.operator;
  ports : l.self.ports ≡ l.fn.self.ports;
}
