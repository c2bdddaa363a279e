use Rattle.std.proofs.Common.{◌≡◌, sym, subst, Option, Some, rules}
use Rattle.pipes_buffer.specs.declared.IoFault.TheVariants as io
use Rattle.pipes_feed.specs.declared.reason.Reason.TheVariants as reason
use Rattle.pipes_inline.specs.declared.RunFault.{RunFault}
use Rattle.pipes_results.specs.Kept.{form_of}
use Rattle.pipes_inline.specs.Ran.{DidRun, HasRunCause}
use Rattle.pipes_inline.proofs.Outcomes.{did-stopped, did-cut, stop-cause}
use Rattle.pipes_inline.proofs.ending.end_stopped.Goals as goal

pub returns-then-eq-clause-ran : goal.returns-then-eq-clause-ran
returns-then-eq-clause-ran g c = λ start lefts faults goes.
    did-cut start lefts faults (g.K.Sink.written c.args.out.now) c.args.underway goes
    (form_of c.args.underway.results) (g.K.Sink.written c.args.out.now)
    (c.stops_here.ensures start lefts faults (g.K.Sink.written c.args.out.now) goes) io.Memory

pub returns-in-Ok-clause-ran : goal.returns-in-Ok-clause-ran
returns-in-Ok-clause-ran g c = λ start lefts faults goes.
    let ample : c.args.stop.reason ≡ reason.Memory → ⊥ = search rules in
    subst (λ (f : Option RunFault). DidRun (form_of c.args.underway.results) start.query start.lefts
    start.written (g.K.Sink.written c.write_end.new.out) f) (sym c.stopped.ensures)
    (did-stopped start lefts faults (g.K.Sink.written c.args.out.now) c.args.underway goes
    (form_of c.args.underway.results) (g.K.Sink.written c.write_end.new.out) c.args.stop
    c.requires.stops ample (c.in-Ok.ensures.ok start lefts faults goes))

pub returns-in-Ok-clause-cause : goal.returns-in-Ok-clause-cause
returns-in-Ok-clause-cause g c = λ start lefts faults out_before goes low.
    subst (λ (f : Option RunFault). HasRunCause start.faults faults out_before
    (g.K.Sink.faults c.write_end.new.out) f) (sym c.stopped.ensures)
    (stop-cause start lefts faults (g.K.Sink.written c.args.out.now) c.args.underway goes
    c.args.stop out_before (g.K.Sink.faults c.write_end.new.out) c.requires.stops)

pub returns-in-Err-clause-ran : goal.returns-in-Err-clause-ran
returns-in-Err-clause-ran g c = λ start lefts faults goes.
    subst (λ (f : RunFault). DidRun (form_of c.args.underway.results) start.query start.lefts
    start.written (g.K.Sink.written c.write_end.new.out) (Some f)) (sym c.known.ensures)
    (did-cut start lefts faults (g.K.Sink.written c.args.out.now) c.args.underway goes
    (form_of c.args.underway.results) (g.K.Sink.written c.write_end.new.out)
    (c.in-Err.ensures.err start lefts faults goes) c.in-Err.fault)
