use Rattle.std.proofs.Common.{sym, subst, Option, List, OnOk, OnErr}
use Rattle.std.specs.Io.KnownBytes.{Appends}
use Rattle.pipes_buffer.specs.Pieces.{AppendsPrefix}
use Rattle.pipes_tuple.specs.declared.value.Value.{Value}
use Rattle.pipes_answer.specs.Lines.{tuple_lines}
use Rattle.pipes_error.specs.Fault.{Fault, fault_seen}
use Rattle.pipes_run.specs.Errand as errand
use Rattle.pipes_run.specs.Outcome.{FaultCounts, RanAfter}
use Rattle.pipes_run.proofs.Answering.{answered, unanswered}
use Rattle.pipes_run.proofs.answer.answer_checked.Goals as goal

pub returns-in-Ok : goal.returns-in-Ok
returns-in-Ok g c = λ name.
    let before : FaultCounts = record {
      files = g.F.Files.faults c.args.files.now;
      searches =
          g.F.Files.failed_searches c.args.files.now;
      out = g.K.Sink.faults c.args.out.now;
    } in
    let now : FaultCounts = record {
      files = g.F.Files.faults c.answer_at.new.files;
      searches =
          g.F.Files.failed_searches c.answer_at.new.files;
      out =
          g.K.Sink.faults c.write_tuples.new.out;
    } in
    let first = g.K.Sink.written c.args.out.now in
    let last = g.K.Sink.written c.write_tuples.new.out in
    let ok = subst (λ (rows : List (List Value)). OnOk c.write_tuples.result
    (Appends first last (tuple_lines rows))) c.as_slice.ensures.value
    c.write_tuples.ensures.ok in
    let prefix = subst (λ (rows : List (List Value)). OnErr c.write_tuples.result
    (AppendsPrefix first last (tuple_lines rows))) c.as_slice.ensures.value
    c.write_tuples.ensures.prefix in
    subst (λ (fault : Option Fault). RanAfter (errand.At name c.args.time) c.args.query.now
    (g.F.Files.known c.args.files.now) before now first last fault) (sym c.written.ensures)
    (answered name c.args.query.now (g.F.Files.known c.args.files.now) before now first last
    c.in-Ok.tuples.items c.args.time c.write_tuples.result c.in-Ok.ensures.order
    c.in-Ok.ensures.gives ok prefix c.write_tuples.ensures.cause)

pub returns-in-Err : goal.returns-in-Err
returns-in-Err g c = λ name. unanswered name c.args.query.now (g.F.Files.known c.args.files.now) _ _
    (g.K.Sink.written c.args.out.now) c.args.time (fault_seen c.in-Err.fault)
    c.in-Err.ensures.served c.in-Err.ensures.cause c.in-Err.ensures.gives
