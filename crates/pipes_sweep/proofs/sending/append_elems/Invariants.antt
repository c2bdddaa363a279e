use Rattle.std.proofs.Common.{◌≡◌, ◌++◌, List, map}
use Rattle.pipes_stream.specs.declared.message.Message.{Message}
use Rattle.pipes_stream.specs.declared.message.Message.TheVariants as message
use Rattle.pipes_sweep.proofs.sending.append_elems.Given as goal

abbrev pub invariant-loop-elem : goal.invariant-loop-elem
invariant-loop-elem l = record {
  appended : l.out.items ≡ l.initial.out.items ++ map message.Elem l.yielded;
  grows : (more : List Message) × (l.out.items ≡ l.initial.out.items ++ more);
}
