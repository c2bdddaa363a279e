use Rattle.std.proofs.Common.{◌≡◌, ◌++◌}
use Rattle.pipes_seam.specs.Seams.{only_elements}
use Rattle.pipes_seam.proofs.seam.keep_elements.Given as goal

abbrev pub invariant-loop-message : goal.invariant-loop-message
invariant-loop-message l = l.out.items ≡ l.initial.out.items ++ only_elements l.yielded
