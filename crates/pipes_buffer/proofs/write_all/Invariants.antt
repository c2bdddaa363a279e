use Rattle.std.proofs.Common.{length, take, ◌-◌, ◌≤◌}
use Rattle.std.specs.Io.KnownBytes.{Appends}
use Rattle.pipes_buffer.proofs.write_all.Given as goal

abbrev pub invariant-pieces : goal.invariant-pieces
invariant-pieces g l = record {
  within : l.place ≤ length l.bytes;
  later : g.K.Sink.faults l.initial.out ≤ g.K.Sink.faults l.out;
  written : Appends (g.K.Sink.written l.initial.out) (g.K.Sink.written l.out)
      (take l.place l.bytes);
}

abbrev pub decreases-pieces : goal.decreases-pieces
decreases-pieces g l = length l.bytes - l.place
