use Rattle.std.proofs.Common.{◌≡◌, ◌++◌, ◌-◌, List, map, replicate}
use Rattle.pipes_stream.specs.declared.message.Message.{Message}
use Rattle.pipes_stream.specs.declared.message.Message.TheVariants as message
use Rattle.pipes_timeline.proofs.timeline.send_many.Given as goal

abbrev pub invariant-loop-copy : goal.invariant-loop-copy
invariant-loop-copy l = record {
  sent : l.out.items ≡ l.initial.out.items ++ map message.Elem (replicate (l._copy - 1) l.elem);
  same : l.elem ≡ l.initial.elem;
  grows : (more : List Message) × (l.out.items ≡ l.initial.out.items ++ more);
}
