use Rattle.std.proofs.Common.{◌≡◌, ◌++◌, take}
use Rattle.pipes_tuple.proofs.value.copy_all.Given as goal

abbrev pub invariant-loop-value : goal.invariant-loop-value
invariant-loop-value l = l.to.items ≡ l.initial.to.items ++ take l.value-index l.from
