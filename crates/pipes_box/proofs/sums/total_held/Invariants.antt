use Rattle.std.proofs.Common.{◌≡◌, ◌-◌, ◌^◌, ℕ, min, take}
use Rattle.std.specs.List.{sum_by}
use Rattle.pipes_node.specs.Nodes.{held_in}
use Rattle.pipes_box.proofs.sums.total_held.Given as goal

abbrev pub invariant-loop-node : goal.invariant-loop-node
invariant-loop-node l = l.held ≡ min (sum_by (λ n. held_in n.operator) (take l.node-index l.nodes))
    (2 ^ 64 - 1)
