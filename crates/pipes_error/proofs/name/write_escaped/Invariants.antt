use Rattle.std.proofs.Common.{◌≤◌, length}
use Rattle.pipes_error.proofs.Names.{IsSaid}
use Rattle.pipes_error.proofs.name.write_escaped.Given as goal

abbrev pub invariant-runs : goal.invariant-runs
invariant-runs g l = record {
  later : g.K.Sink.faults l.initial.err ≤ g.K.Sink.faults l.err;
  said : IsSaid (g.K.Sink.written l.initial.err) (g.K.Sink.written l.err) l.name l.rest;
}

abbrev pub decreases-runs : goal.decreases-runs
decreases-runs g l = length l.rest
