use Rattle.std.proofs.Common.{◌≡◌, ◌+◌, ◌≤◌, ◌++◌, vec_len, vec_capacity}
use Rattle.pipes_link.specs.Ends.{SameInlet, known, ready, taken}
use Rattle.pipes_feeder.proofs.sending.take_all.Given as goal

abbrev pub invariant-messages : goal.invariant-messages
invariant-messages l = record {
  room : vec_len l.out + ready l.inlet ≤ vec_capacity l.out;
  taken_all : taken l.inlet ++ known l.inlet ≡ taken l.initial.inlet ++ known l.initial.inlet;
  appended : l.out.items ++ known l.inlet ≡ l.initial.out.items ++ known l.initial.inlet;
  link : SameInlet l.initial.inlet l.inlet;
}

abbrev pub decreases-messages : goal.decreases-messages
decreases-messages l = ready l.inlet
