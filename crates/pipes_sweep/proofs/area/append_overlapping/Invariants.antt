use Rattle.std.proofs.Common.{◌≡◌, ◌+◌, ◌≤◌, ◌++◌, List, length}
use Rattle.pipes_stream.specs.declared.Elem.{Elem}
use Rattle.pipes_sweep.specs.Areas.{overlapping}
use Rattle.pipes_sweep.proofs.area.append_overlapping.Given as goal

abbrev pub invariant-loop-elem : goal.invariant-loop-elem
invariant-loop-elem g l = record {
  found : l.found.items ++ overlapping l.span l.elems
      ≡ l.initial.found.items ++ overlapping l.span l.initial.elems;
  grows : (more : List Elem) × (l.found.items ≡ l.initial.found.items ++ more);
  steps : l.steps + length l.elems ≤ l.initial.steps + length l.initial.elems;
}

abbrev pub decreases-loop-elem : goal.decreases-loop-elem
decreases-loop-elem g l = length l.elems
