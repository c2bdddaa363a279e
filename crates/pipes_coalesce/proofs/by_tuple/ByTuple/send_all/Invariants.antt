use Rattle.std.proofs.Common.{◌≡◌, ◌++◌, ◌+◌, ℕ, List, map, length}
use Rattle.pipes_stream.specs.declared.Elem.{Elem}
use Rattle.pipes_stream.specs.declared.message.Message.TheVariants as message
use Rattle.pipes_stream.specs.Weights.{weigh}
use Rattle.pipes_coalesce.proofs.by_tuple.ByTuple.send_all.Given as goal

abbrev pub invariant-loop-queue : goal.invariant-loop-queue
invariant-loop-queue l = record {
  sent : List Elem;
  appended : l.out.items ≡ l.initial.out.items ++ map message.Elem sent;
  weights : (f : Elem → ℕ) → weigh f sent + weigh f l.self ≡ weigh f l.initial.self;
}

abbrev pub decreases-loop-queue : goal.decreases-loop-queue
decreases-loop-queue l = length l.self
