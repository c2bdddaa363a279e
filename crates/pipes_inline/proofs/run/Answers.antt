use Rattle.std.proofs.Common.{◌≡◌, ◌∙◌, map, length, sym, ap, subst, arith, List, ℕ}
use Rattle.std.proofs.lemmas.List.{length-map}
use Rattle.pipes_output.specs.declared.form.Form.{Form}
use Rattle.pipes_inline.specs.Standing.{Start}
use Rattle.pipes_inline.specs.Ran.{DidRun, fault_in}
use Rattle.pipes_inline.proofs.Outcomes.{did-nothing}
use Rattle.pipes_inline.proofs.run.Goals as goal

pub run_underway-requires-clause-count : goal.run_underway-requires-clause-count
run_underway-requires-clause-count g c κs within =
    let goes = c.in-Ok.ensures.goes (g.K.Sink.written c.args.out.now) in
    let same = ap length c.in-Ok.ensures.name in
    let before = length-map c.args.srcs.now g.S.Source.name in
    let after = length-map c.start.new.srcs g.S.Source.name in
    omega (arith, goes.count, same, before, after, c.requires.count)

pub run_underway-requires-clause-goes : goal.run_underway-requires-clause-goes
run_underway-requires-clause-goes g c κs within = (
  record {
    query = c.args.query.now;
    lefts = map g.S.Source.left c.args.srcs.now;
    faults = map g.S.Source.faults c.args.srcs.now;
    written = g.K.Sink.written c.args.out.now;
  },
  c.in-Ok.ensures.goes (g.K.Sink.written c.args.out.now),
)

pub returns-in-Ok-clause-ran : goal.returns-in-Ok-clause-ran
returns-in-Ok-clause-ran g c =
    let start : Start = record {
      query = c.args.query.now;
      lefts = map g.S.Source.left c.args.srcs.now;
      faults = map g.S.Source.faults c.args.srcs.now;
      written = g.K.Sink.written c.args.out.now;
    } in
    subst (λ (f : Form). DidRun f start.query start.lefts start.written
    (g.K.Sink.written c.run_underway.new.out) (fault_in c.run_underway.result)) c.in-Ok.ensures.form
    (c.run_underway.ensures.ran start (c.in-Ok.ensures.goes (g.K.Sink.written c.args.out.now)))

pub returns-in-Ok-clause-cause : goal.returns-in-Ok-clause-cause
returns-in-Ok-clause-cause g c =
    let start : Start = record {
      query = c.args.query.now;
      lefts = map g.S.Source.left c.args.srcs.now;
      faults = map g.S.Source.faults c.args.srcs.now;
      written = g.K.Sink.written c.args.out.now;
    } in
    c.run_underway.ensures.cause start (c.in-Ok.ensures.goes (g.K.Sink.written c.args.out.now))

pub returns-in-Err-clause-ran : goal.returns-in-Err-clause-ran
returns-in-Err-clause-ran g c = did-nothing c.args.form c.args.query.now
    (map g.S.Source.left c.args.srcs.now) (g.K.Sink.written c.args.out.now)
