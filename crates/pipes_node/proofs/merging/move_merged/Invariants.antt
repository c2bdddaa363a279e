use Rattle.std.proofs.Common.{◌≡◌, []}
use Rattle.pipes_node.specs.Merging.{MergedAll}
use Rattle.pipes_node.proofs.merging.move_merged.Given as goal

abbrev pub invariant-loop-message : goal.invariant-loop-message
invariant-loop-message l = record {
  merged : MergedAll l.initial.pending.items l.initial.level l.yielded l.pending.items l.level;
  none : l.yielded ≡ [] → l.pending ≡ l.initial.pending;
}
