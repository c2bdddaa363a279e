use Rattle.std.proofs.Common.{◌≡◌, ◌-◌, ◌^◌, ℕ, min, take}
use Rattle.std.specs.List.{sum_by}
use Rattle.pipes_box.proofs.sums.total_moved.Given as goal

abbrev pub invariant-loop-node : goal.invariant-loop-node
invariant-loop-node l = l.moved ≡ min (sum_by (λ n. n.moved) (take l.node-index l.nodes))
    (2 ^ 64 - 1)
