use Rattle.std.proofs.Common.{◌≡◌, ◌+◌, [], length}
use Rattle.pipes_node.specs.Nodes.{IsCounted, NodeMoves, NodeStands, NodeOwes, total_ready}
use Rattle.pipes_node.proofs.node.Node.take_port.Given as goal

abbrev pub invariant-loop-taken : goal.invariant-loop-taken
invariant-loop-taken l = record {
  counted : IsCounted l.self;
  moves : NodeMoves l.initial.self l.self;
  owes : NodeStands l.initial.self → NodeOwes l.self;
  number : total_ready l.initial.self.ports.items ≡ total_ready l.self.ports.items + l.taken;
  idle : l.taken ≡ 0 → l.self.fresh.items ≡ [];
  pending : l.self.pending ≡ l.initial.self.pending;
  going : l.self.failed ≡ l.initial.self.failed;
  outlet : l.self.outlet ≡ l.initial.self.outlet;
}

abbrev pub decreases-loop-taken : goal.decreases-loop-taken
decreases-loop-taken l = total_ready l.self.ports.items
