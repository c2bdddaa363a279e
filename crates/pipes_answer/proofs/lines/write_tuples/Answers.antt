use Rattle.std.proofs.Common.{rules, ◌+◌, subst, List, ℕ, take}
use Rattle.pipes_buffer.specs.Pieces.{AppendsPrefix, PassesOn}
use Rattle.pipes_buffer.proofs.Appended.{on_err}
use Rattle.pipes_buffer.proofs.Passing.{prefix-of_passed, prefix-of_stopped, passed-grown}
use Rattle.pipes_buffer.proofs.Passing.{passed-on}
use Rattle.pipes_buffer.proofs.Passing.{prefix-last}
use Rattle.pipes_buffer.proofs.Each.{each-more, each-prefix, each-all}
use Rattle.pipes_answer.specs.Lines.{tuple_line, tuple_lines}
use Rattle.pipes_answer.proofs.lines.write_tuples.Goals as goal

pub returns-in_err-push_line-clause-prefix : goal.returns-in_err-push_line-clause-prefix
returns-in_err-push_line-clause-prefix g c = on_err c.from_residual.result
    (prefix-of_passed _ _ _ _ c.tuples.text.items _ (each-prefix tuple_line c.args.tuples.now
    c.tuples.tuple-index) c.tuples.invariant.passed)

pub returns-in_err-write_if_full-clause-prefix : goal.returns-in_err-write_if_full-clause-prefix
returns-in_err-write_if_full-clause-prefix g c =
    let i = c.tuples.tuple-index in
    let more = each-more tuple_line c.args.tuples.now i c.tuple-item.result c.tuples-test.true
    c.tuple-item.is in
    let passed = passed-grown _ _ (tuple_lines (take i c.args.tuples.now)) c.tuples.text.items _ _ _
    c.tuples.invariant.passed more c.in_ok-push_line.ensures in
    on_err c.from_residual-in_err-write_if_full.result (prefix-of_stopped _ _ _ _ _
    c.push_line.new.text.items _ (each-prefix tuple_line c.args.tuples.now (i + 1)) passed
    c.in_err-write_if_full.ensures.prefix)

pub tuples-preserved : goal.tuples-preserved
tuples-preserved g c =
    let i = c.tuples.tuple-index in
    let more = each-more tuple_line c.args.tuples.now i c.tuple-item.result c.tuples-test.true
    c.tuple-item.is in
    let passed = passed-grown _ _ (tuple_lines (take i c.args.tuples.now)) c.tuples.text.items _ _ _
    c.tuples.invariant.passed more c.in_ok-push_line.ensures in
    record {
      later = search rules;
      passed = passed-on _ _ _ _ c.push_line.new.text.items _ passed
          c.in_ok-write_if_full.ensures.ok;
    }

pub returns-in_err-write_all-clause-prefix : goal.returns-in_err-write_all-clause-prefix
returns-in_err-write_all-clause-prefix g c =
    let init = g.K.Sink.written c.args.out.now in
    let cur = g.K.Sink.written c.tuples.out in
    let passed = subst (λ (l : List ℕ). PassesOn init cur l c.tuples.text.items)
    (each-all tuple_line c.args.tuples.now c.tuples.tuple-index c.tuples-test.false)
    c.tuples.invariant.passed in
    let prefix = subst (λ (l : List ℕ). AppendsPrefix cur (g.K.Sink.written c.write_all.new.out) l)
    c.as_slice.ensures.value c.in_err-write_all.ensures.err in
    on_err c.from_residual-in_err-write_all.result (prefix-last _ _ _ _ c.tuples.text.items passed
    prefix)
