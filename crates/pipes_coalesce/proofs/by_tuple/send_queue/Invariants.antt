use Rattle.std.proofs.Common.{◌≡◌, ◌++◌, map, length}
use Rattle.pipes_stream.specs.declared.message.Message.TheVariants as message
use Rattle.pipes_coalesce.proofs.by_tuple.send_queue.Given as goal

abbrev pub invariant-loop-elem : goal.invariant-loop-elem
invariant-loop-elem l =
    l.out.items ++ map message.Elem l.queue ≡ l.initial.out.items
    ++ map message.Elem l.initial.queue

abbrev pub decreases-loop-elem : goal.decreases-loop-elem
decreases-loop-elem l = length l.queue
