use Rattle.std.proofs.Common.{◌≡◌, ◌++◌, List, ℕ, Option, refl, subst, sym, ap, rules, ◌∙◌}
use Rattle.std.proofs.lemmas.Result.{on_err_weaker}
use Rattle.std.specs.declared.vec.Vec.{Vec}
use Rattle.std.specs.declared.alloc.Global.{Global}
use Rattle.pipes_buffer.proofs.Appended.{on_err, map_ok}
use Rattle.pipes_stream.specs.declared.message.Message.{Message}
use Rattle.pipes_stream.specs.Lists.{elements}
use Rattle.pipes_output.specs.declared.form.Form.{Form}
use Rattle.pipes_results.specs.declared.results.Results.{Results}
use Rattle.pipes_results.specs.Kept.{Keeps, WritesPrefixOf, WritesWhole, form_of}
use Rattle.pipes_inline.specs.Standing.{StopsWithin}
use Rattle.pipes_inline.proofs.Finishing.{ends-start, cut-within, cut-last, wrote-all}
use Rattle.pipes_inline.proofs.ending.write_end.Goals as goal

pub work_to_end-requires-clause-ends : goal.work_to_end-requires-clause-ends
work_to_end-requires-clause-ends g c κs within =
    let r = c.requires.goes in (
      r.0,
      g.K.Sink.written c.args.out.now,
      r.3.taken,
      ends-start r.0 r.1 r.2 (g.K.Sink.written c.args.out.now) c.args.underway r.3,
    )

pub returns-in_err-work_to_end-clause-err : goal.returns-in_err-work_to_end-clause-err
returns-in_err-work_to_end-clause-err g c = on_err c.from_residual.result
    (λ start lefts faults goes. c.stops_here.ensures start lefts faults
    (g.K.Sink.written c.args.out.now) goes)

pub returns-in_err-send_all-clause-err : goal.returns-in_err-send_all-clause-err
returns-in_err-send_all-clause-err g c = on_err c.from_residual-in_err-send_all.result
    (λ start lefts faults goes.
    let before = g.K.Sink.written c.args.out.now in
    let after = g.K.Sink.written c.send_all.new.out in
    let o = c.in_ok-work_to_end.ensures.over start before goes.taken
    (ends-start start lefts faults before c.args.underway goes) in
    cut-within start lefts faults before after c.args.underway c.work_to_end.new.underway goes o
    (form_of c.args.underway.results)
    (subst (λ (r : Results). StopsWithin start.written after (form_of r)
    (elements o.done) (elements c.work_to_end.new.underway.top.items)) c.work_to_end.ensures.results
    (subst (λ (v : Vec Message Global). StopsWithin start.written after
    (form_of c.work_to_end.new.underway.results) (elements o.done) (elements v.items))
    c.replace-top.ensures.value
    (c.in_err-send_all.ensures.err start.written (elements o.done) o.kept))))

pub returns-clause-ok : goal.returns-clause-ok
returns-clause-ok g c = map_ok c.end.result (λ ok start lefts faults goes.
    let before = g.K.Sink.written c.args.out.now in
    let after = g.K.Sink.written c.end.new.out in
    let o = c.in_ok-work_to_end.ensures.over start before goes.taken
    (ends-start start lefts faults before c.args.underway goes) in
    let same : form_of c.send_all.new.results ≡ form_of c.args.underway.results =
    c.send_all.ensures.form
    ∙ ap (λ (r : Results). form_of r) c.work_to_end.ensures.results in
    wrote-all start lefts faults before after c.args.underway c.work_to_end.new.underway goes o
    (form_of c.args.underway.results) c.args.last.now c.requires.last
    (subst (λ (f : Form). WritesWhole start.written after f
    (elements o.done ++ elements c.work_to_end.new.underway.top.items) c.args.last.now) same
    (ok start.written (elements o.done ++ elements c.work_to_end.new.underway.top.items)
    (subst (λ (v : Vec Message Global). Keeps start.written
    (g.K.Sink.written c.send_all.new.out) c.send_all.new.results
    (elements o.done ++ elements v.items)) c.replace-top.ensures.value
    (c.in_ok-send_all.ensures.ok start.written (elements o.done) o.kept)))))
    c.end.ensures.ok

pub returns-clause-err : goal.returns-clause-err
returns-clause-err g c = on_err_weaker c.end.result (λ err start lefts faults goes.
    let before = g.K.Sink.written c.args.out.now in
    let after = g.K.Sink.written c.end.new.out in
    let o = c.in_ok-work_to_end.ensures.over start before goes.taken
    (ends-start start lefts faults before c.args.underway goes) in
    let same : form_of c.send_all.new.results ≡ form_of c.args.underway.results =
    c.send_all.ensures.form
    ∙ ap (λ (r : Results). form_of r) c.work_to_end.ensures.results in
    cut-last start lefts faults before after c.args.underway c.work_to_end.new.underway goes o
    (form_of c.args.underway.results) c.args.last.now c.requires.last
    (subst (λ (f : Form). WritesPrefixOf start.written after f
    (elements o.done ++ elements c.work_to_end.new.underway.top.items) c.args.last.now) same
    (err start.written (elements o.done ++ elements c.work_to_end.new.underway.top.items)
    (subst (λ (v : Vec Message Global). Keeps start.written
    (g.K.Sink.written c.send_all.new.out) c.send_all.new.results
    (elements o.done ++ elements v.items)) c.replace-top.ensures.value
    (c.in_ok-send_all.ensures.ok start.written (elements o.done) o.kept)))))
    c.end.ensures.err
