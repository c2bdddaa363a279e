use Rattle.std.proofs.Common.{◌≡◌, ◌<◌, ℕ, List, length, get_or}
use Rattle.pipes_node.specs.declared.node.Node.{Node}
use Rattle.pipes_box.specs.Networks.{IsLinked, SettlesPorts}
use Rattle.pipes_box.proofs.settling.settle_ports.Given as goal

abbrev pub invariant-loop-port : goal.invariant-loop-port
invariant-loop-port l = record {
  count : length l.nodes ≡ length l.initial.nodes;
  linked : IsLinked l.nodes;
  ports : (d : Node) → length (get_or l.nodes l.parent d).ports.items ≡ length
      (get_or l.initial.nodes l.parent d).ports.items;
  settles : (first : List Node) → SettlesPorts first l.initial.nodes l.parent 0
      → SettlesPorts first l.nodes l.parent l.port;
}
