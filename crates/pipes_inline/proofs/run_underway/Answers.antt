use Rattle.std.proofs.Common.{◌≡◌, map, sym, subst, Option, Some}
use Rattle.pipes_inline.specs.declared.RunFault.{RunFault}
use Rattle.pipes_results.specs.Kept.{form_of}
use Rattle.pipes_output.specs.declared.form.Form.{Form}
use Rattle.pipes_inline.specs.Ran.{DidRun, fault_in}
use Rattle.pipes_inline.proofs.Outcomes.{did-cut}
use Rattle.pipes_inline.proofs.run_underway.Goals as goal

pub end-requires-clause-goes : goal.end-requires-clause-goes
end-requires-clause-goes g c κs within =
    let r = c.requires.goes in (
      r.0,
      map g.S.Source.left c.take_all.new.srcs,
      map g.S.Source.faults c.take_all.new.srcs,
      c.in-Ok.ensures.ok r.0 r.1,
    )

pub returns-in-Ok-clause-ran : goal.returns-in-Ok-clause-ran
returns-in-Ok-clause-ran g c = λ start goes.
    subst (λ (f : Form). DidRun f start.query start.lefts start.written
    (g.K.Sink.written c.end.new.out) (fault_in c.end.result)) c.take_all.ensures.form
    (c.end.ensures.ran start (map g.S.Source.left c.take_all.new.srcs)
    (map g.S.Source.faults c.take_all.new.srcs) (c.in-Ok.ensures.ok start goes))

pub returns-in-Ok-clause-cause : goal.returns-in-Ok-clause-cause
returns-in-Ok-clause-cause g c = λ start goes.
    c.end.ensures.cause start (map g.S.Source.left c.take_all.new.srcs)
    (map g.S.Source.faults c.take_all.new.srcs) (g.K.Sink.faults c.args.out.now)
    (c.in-Ok.ensures.ok start goes) c.take_all.ensures.later

pub returns-in-Err-clause-ran : goal.returns-in-Err-clause-ran
returns-in-Err-clause-ran g c = λ start goes.
    subst (λ (f : RunFault). DidRun (form_of c.args.underway.results) start.query start.lefts
    start.written (g.K.Sink.written c.take_all.new.out) (Some f)) (sym c.known.ensures)
    (did-cut start (map g.S.Source.left c.args.srcs.now) (map g.S.Source.faults c.args.srcs.now)
    (g.K.Sink.written c.args.out.now) c.args.underway goes
    (form_of c.args.underway.results) (g.K.Sink.written c.take_all.new.out)
    (c.in-Err.ensures.err start goes) c.in-Err.fault)
