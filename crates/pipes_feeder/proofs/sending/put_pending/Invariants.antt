use Rattle.std.proofs.Common.{◌≡◌, ◌+◌, ◌++◌, ◌≤◌, length}
use Rattle.pipes_link.specs.Ends.{SameOutlet, sent, spare}
use Rattle.pipes_feeder.proofs.sending.put_pending.Given as goal

abbrev pub invariant-loop : goal.invariant-loop
invariant-loop l = record {
  whole : sent l.outlet ++ l.pending.items ≡ sent l.fn.outlet ++ l.fn.pending.items;
  room : l.room ≡ spare l.outlet + l.counter;
  more : spare l.fn.outlet ≤ l.room;
  fewer : length l.fn.pending.items ≡ length l.pending.items + l.counter;
  link : SameOutlet l.fn.outlet l.outlet;
}
