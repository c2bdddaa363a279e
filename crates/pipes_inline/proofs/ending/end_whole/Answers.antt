use Rattle.std.proofs.Common.{◌≡◌, sym, subst, Option, Some}
use Rattle.pipes_inline.specs.declared.RunFault.{RunFault}
use Rattle.pipes_results.specs.Kept.{form_of}
use Rattle.pipes_inline.specs.Ran.{DidRun}
use Rattle.pipes_inline.proofs.Outcomes.{did-all, did-cut}
use Rattle.pipes_inline.proofs.ending.end_whole.Goals as goal

pub returns-in-Ok-clause-ran : goal.returns-in-Ok-clause-ran
returns-in-Ok-clause-ran g c = λ start lefts faults goes.
    did-all start lefts faults (g.K.Sink.written c.args.out.now) c.args.underway goes
    (form_of c.args.underway.results) (g.K.Sink.written c.write_end.new.out) c.requires.stops
    (c.in-Ok.ensures.ok start lefts faults goes)

pub returns-in-Err-clause-ran : goal.returns-in-Err-clause-ran
returns-in-Err-clause-ran g c = λ start lefts faults goes.
    subst (λ (f : RunFault). DidRun (form_of c.args.underway.results) start.query start.lefts
    start.written (g.K.Sink.written c.write_end.new.out) (Some f)) (sym c.known.ensures)
    (did-cut start lefts faults (g.K.Sink.written c.args.out.now) c.args.underway goes
    (form_of c.args.underway.results) (g.K.Sink.written c.write_end.new.out)
    (c.in-Err.ensures.err start lefts faults goes) c.in-Err.fault)
