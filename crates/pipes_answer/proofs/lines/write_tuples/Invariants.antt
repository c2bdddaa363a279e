use Rattle.std.proofs.Common.{◌≤◌, take}
use Rattle.pipes_buffer.specs.Pieces.{PassesOn}
use Rattle.pipes_answer.specs.Lines.{tuple_lines}
use Rattle.pipes_answer.proofs.lines.write_tuples.Given as goal

abbrev pub invariant-tuples : goal.invariant-tuples
invariant-tuples g l = record {
  later : g.K.Sink.faults l.initial.out ≤ g.K.Sink.faults l.out;
  passed : PassesOn (g.K.Sink.written l.initial.out) (g.K.Sink.written l.out)
      (tuple_lines (take l.tuple-index l.tuples)) l.text.items;
}
