use Rattle.std.proofs.Common.{◌≡◌, ◌++◌, List, [], refl, subst, rules}
use Rattle.std.proofs.lemmas.Result.{on_err_weaker}
use Rattle.std.specs.declared.vec.Vec.{Vec}
use Rattle.std.specs.declared.alloc.Global.{Global}
use Rattle.pipes_buffer.proofs.Appended.{on_err, map_ok}
use Rattle.pipes_stream.specs.declared.message.Message.{Message}
use Rattle.pipes_stream.specs.Lists.{elements}
use Rattle.pipes_semantics.specs.Answer.{schemas_of}
use Rattle.pipes_results.specs.Kept.{Keeps, form_of}
use Rattle.pipes_inline.specs.Standing.{StopsWithin}
use Rattle.pipes_inline.proofs.Turning.{delivered, stands-off, cut-sending}
use Rattle.pipes_inline.proofs.underway.Underway.deliver.Goals as goal

pub returns-in_err-work_off-clause-err : goal.returns-in_err-work_off-clause-err
returns-in_err-work_off-clause-err g c = on_err c.from_residual.result
    (λ start lefts faults goes. c.stops_here.ensures start lefts faults
    (g.K.Sink.written c.args.out.now) goes)

pub returns-clause-ok : goal.returns-clause-ok
returns-clause-ok g c = map_ok c.send_all.result (λ ok start lefts faults goes.
    delivered start lefts faults (g.K.Sink.written c.args.out.now) c.args.self.now goes
    c.work_off.new.self c.work_off.new.out.items (g.K.Sink.written c.send_all.new.out) _
    c.in_ok-work_off.ensures.works refl refl (search rules)
    (subst (λ (v : Vec Message Global). Keeps start.written (g.K.Sink.written c.send_all.new.out)
    c.send_all.new.results (elements goes.done ++ elements v.items)) c.replace-top.ensures.value
    (ok start.written (elements goes.done) goes.kept)))
    c.send_all.ensures.ok

pub returns-clause-err : goal.returns-clause-err
returns-clause-err g c = on_err_weaker c.send_all.result (λ err start lefts faults goes.
    cut-sending start lefts faults (g.K.Sink.written c.args.out.now) c.args.self.now goes
    c.work_off.new.out.items
    (c.answers.ensures (schemas_of start.query) start.query.plan goes.sent
    (goes.done ++ c.work_off.new.out.items)
    (stands-off start lefts faults (g.K.Sink.written c.args.out.now) c.args.self.now goes
    c.work_off.new.self c.work_off.new.out.items c.in_ok-work_off.ensures.works))
    (form_of c.args.self.now.results) (g.K.Sink.written c.send_all.new.out)
    (subst (λ (v : Vec Message Global). StopsWithin start.written
    (g.K.Sink.written c.send_all.new.out) (form_of c.args.self.now.results)
    (elements goes.done) (elements v.items)) c.replace-top.ensures.value
    (err start.written (elements goes.done) goes.kept)))
    c.send_all.ensures.err
