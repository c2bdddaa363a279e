use Rattle.std.proofs.Common.{rules, ◌≡◌, ◌∙◌, subst, List, ◌++◌, map, sym}
use Rattle.std.proofs.lemmas.List.{map-id}
use Rattle.std.proofs.lemmas.Iterator.Consumers.{YieldsList-turn, YieldsList-so_far, YieldsList-end}
use Rattle.std.proofs.lemmas.Iterator.Adapters.{YieldsList-from_vec}
use Rattle.pipes_stream.specs.declared.message.Message.{Message}
use Rattle.pipes_stream.specs.Lists.{elements}
use Rattle.pipes_buffer.proofs.Appended.{on_err}
use Rattle.pipes_results.specs.Kept.{Keeps}
use Rattle.pipes_inline.proofs.Outgoing.{kept-more, kept-none, stops-at}
use Rattle.pipes_inline.proofs.sending.send_all.Goals as goal

pub top-init : goal.top-init
top-init g c = record {
  can = search rules;
  finite = search rules;
  form = search rules;
  keeps = λ init elems kept. kept-none init _ c.args.results.now elems kept;
  later = search rules;
}

pub returns-in_err-send_one-clause-err : goal.returns-in_err-send_one-clause-err
returns-in_err-send_one-clause-err g c =
    let yields = YieldsList-from_vec {s = c.into_iter-message-iterator.result} c.args.top.items
    (search rules) (search rules) in
    let turn = YieldsList-turn yields c.top.yielded c.top.message-iterator c.top.yielded_by
    c.next.result c.next.new.self c.in-Some.message c.in-Some.is c.next.ensures.steps in
    let so_far = YieldsList-so_far yields c.top.yielded c.top.message-iterator
    c.top.yielded_by in
    on_err c.from_residual.result (λ init elems kept.
    stops-at init _ _ _ elems c.args.top.items c.top.yielded
    c.in-Some.message so_far turn c.top.invariant.form
    (c.in_err-send_one.ensures.err init _ (c.top.invariant.keeps init elems kept)))

pub top-preserved : goal.top-preserved
top-preserved g c = record {
  can = search rules;
  finite = search rules;
  form = c.send_one.ensures.form ∙ c.top.invariant.form;
  keeps = λ init elems kept. kept-more init _ c.send_one.new.results elems
      c.top.yielded c.in-Some.message (c.in_ok-send_one.ensures.ok init _
      (c.top.invariant.keeps init elems kept));
  later = search rules;
}

pub returns-clause-ok : goal.returns-clause-ok
returns-clause-ok g c =
    let end = YieldsList-end (YieldsList-from_vec {s = c.into_iter-message-iterator.result}
    c.args.top.items (search rules) (search rules))
    c.top.yielded c.top.message-iterator c.top.yielded_by c.next.result c.next.new.self
    c.in-None.is c.next.ensures.steps in
    λ init elems kept. subst (λ (l : List Message). Keeps init (g.K.Sink.written c.top.out)
    c.top.results (elems ++ elements l)) (sym (map-id c.top.yielded)
    ∙ end.0) (c.top.invariant.keeps init elems kept)
