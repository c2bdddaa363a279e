use Rattle.std.proofs.Common.{◌≡◌, ◌≤◌, ◌<◌, ℕ, length, get_or}
use Rattle.pipes_node.specs.declared.node.Node.{Node}
use Rattle.pipes_node.specs.Nodes.{NodeTurned}
use Rattle.pipes_node.proofs.turning.turn_here.Given as goal

abbrev pub invariant-loop-k : goal.invariant-loop-k
invariant-loop-k g l = record {
  count : length l.nodes ≡ length l.initial.nodes;
  turned : (j : ℕ) (d : Node) → j < l.k → NodeTurned (get_or l.initial.nodes j d)
      (get_or l.nodes j d);
  same : (j : ℕ) (d : Node) → l.k ≤ j → get_or l.nodes j d ≡ get_or l.initial.nodes j d;
}
