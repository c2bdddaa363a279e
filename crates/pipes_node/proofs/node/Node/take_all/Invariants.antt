use Rattle.std.proofs.Common.{◌≡◌, ◌+◌, ◌<◌, ℕ, length, get_or}
use Rattle.pipes_link.specs.Ends.{ready}
use Rattle.pipes_node.specs.declared.port.Port.{Port}
use Rattle.pipes_node.specs.Nodes.{IsCounted, NodeMoves, NodeStands, total_ready}
use Rattle.pipes_node.proofs.node.Node.take_all.Given as goal

abbrev pub invariant-loop-port : goal.invariant-loop-port
invariant-loop-port l = record {
  counted : IsCounted l.self;
  moves : NodeMoves l.initial.self l.self;
  stands : NodeStands l.initial.self → NodeStands l.self;
  number : total_ready l.initial.self.ports.items ≡ total_ready l.self.ports.items + l.taken;
  drained : (k : ℕ) (d : Port) → k < l.port → k < length l.self.ports.items
      → ready (get_or l.self.ports.items k d).inlet ≡ 0;
  idle : l.taken ≡ 0 → l.self.pending ≡ l.initial.self.pending;
  going : l.self.failed ≡ l.initial.self.failed;
  outlet : l.self.outlet ≡ l.initial.self.outlet;
}
