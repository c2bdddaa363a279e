use Rattle.std.proofs.Common.{◌≡◌, ◌<◌, ℕ, false, get_or}
use Rattle.pipes_node.specs.declared.node.Node.{Node}
use Rattle.pipes_box.proofs.sums.has_failed.Given as goal

abbrev pub invariant-loop-k : goal.invariant-loop-k
invariant-loop-k l = (j : ℕ) (d : Node) → j < l.k → (get_or l.nodes j d).failed ≡ false
