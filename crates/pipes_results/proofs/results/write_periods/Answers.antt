use Rattle.std.proofs.Common.{rules, ◌+◌, flat_map, subst, List, ℕ, take}
use Rattle.pipes_output.specs.NormalText.{period_line}
use Rattle.pipes_buffer.specs.Pieces.{AppendsPrefix, PassesOn}
use Rattle.pipes_buffer.proofs.Appended.{on_err}
use Rattle.pipes_buffer.proofs.Each.{each-more, each-prefix, each-all}
use Rattle.pipes_buffer.proofs.Passing.{prefix-of_passed, prefix-of_stopped, passed-grown}
use Rattle.pipes_buffer.proofs.Passing.{passed-on}
use Rattle.pipes_buffer.proofs.Passing.{prefix-last}
use Rattle.pipes_results.proofs.results.write_periods.Goals as goal

pub returns-in_err-print-clause-prefix : goal.returns-in_err-print-clause-prefix
returns-in_err-print-clause-prefix g c = on_err c.from_residual.result
    (prefix-of_passed _ _ _ _ c.periods.text.items _ (each-prefix period_line c.args.periods.now
    c.periods.period-index) c.periods.invariant.passed)

pub returns-in_err-write_if_full-clause-prefix : goal.returns-in_err-write_if_full-clause-prefix
returns-in_err-write_if_full-clause-prefix g c =
    let i = c.periods.period-index in
    let more = each-more period_line c.args.periods.now i c.period-item.result c.periods-test.true
    c.period-item.is in
    let passed = passed-grown _ _ (flat_map period_line (take i c.args.periods.now))
    c.periods.text.items _ _ _ c.periods.invariant.passed more c.in_ok-print.ensures.ok in
    on_err c.from_residual-in_err-write_if_full.result (prefix-of_stopped _ _ _ _ _
    c.print.new.out.items _ (each-prefix period_line c.args.periods.now (i + 1)) passed
    c.in_err-write_if_full.ensures.prefix)

pub periods-preserved : goal.periods-preserved
periods-preserved g c =
    let i = c.periods.period-index in
    let more = each-more period_line c.args.periods.now i c.period-item.result c.periods-test.true
    c.period-item.is in
    let passed = passed-grown _ _ (flat_map period_line (take i c.args.periods.now))
    c.periods.text.items _ _ _ c.periods.invariant.passed more c.in_ok-print.ensures.ok in
    record {
      later = search rules;
      passed = passed-on _ _ _ _ c.print.new.out.items _ passed
          c.in_ok-write_if_full.ensures.ok;
    }

pub returns-in_err-write_all-clause-prefix : goal.returns-in_err-write_all-clause-prefix
returns-in_err-write_all-clause-prefix g c =
    let init = g.K.Sink.written c.args.out.now in
    let cur = g.K.Sink.written c.periods.out in
    let passed = subst (λ (l : List ℕ). PassesOn init cur l c.periods.text.items)
    (each-all period_line c.args.periods.now c.periods.period-index c.periods-test.false)
    c.periods.invariant.passed in
    let prefix = subst (λ (l : List ℕ). AppendsPrefix cur (g.K.Sink.written c.write_all.new.out) l)
    c.as_slice.ensures.value c.in_err-write_all.ensures.err in
    on_err c.from_residual-in_err-write_all.result (prefix-last _ _ _ _ c.periods.text.items passed
    prefix)
