use Rattle.std.proofs.Common.{◌≤◌, take, flat_map}
use Rattle.pipes_buffer.specs.Pieces.{PassesOn}
use Rattle.pipes_output.specs.NormalText.{period_line}
use Rattle.pipes_results.proofs.results.write_periods.Given as goal

abbrev pub invariant-periods : goal.invariant-periods
invariant-periods g l = record {
  later : g.K.Sink.faults l.initial.out ≤ g.K.Sink.faults l.out;
  passed : PassesOn (g.K.Sink.written l.initial.out) (g.K.Sink.written l.out)
      (flat_map period_line (take l.period-index l.periods)) l.text.items;
}
