use Rattle.std.proofs.Common.{◌≡◌, take}
use Rattle.pipes_box.specs.Backlog.{lowered_first}
use Rattle.pipes_box.proofs.sums.first_lowered.Given as goal

abbrev pub invariant-loop-node : goal.invariant-loop-node
invariant-loop-node l = l.place ≡ lowered_first (take l.node-index l.nodes)
