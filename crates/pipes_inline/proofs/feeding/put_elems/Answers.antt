use Rattle.std.proofs.Common.{rules, ◌≡◌, ◌∙◌, subst, List, map, sym, arith}
use Rattle.std.proofs.lemmas.List.{map-id}
use Rattle.std.proofs.lemmas.Iterator.Consumers.{YieldsList-turn, YieldsList-so_far, YieldsList-end}
use Rattle.std.proofs.lemmas.Iterator.Adapters.{YieldsList-from_vec}
use Rattle.pipes_stream.specs.declared.Elem.{Elem}
use Rattle.pipes_stream.specs.declared.message.Message.{Message}
use Rattle.pipes_stream.specs.declared.message.Message.TheVariants as message
use Rattle.pipes_inline.specs.Standing.{PutsAll, CanPutAll}
use Rattle.pipes_inline.proofs.Outgoing.{prefix-at}
use Rattle.pipes_inline.proofs.Putting.{split-map, may-come, puts-none, puts-elem}
use Rattle.pipes_inline.proofs.feeding.put_elems.Goals as goal

pub elems-init : goal.elems-init
elems-init g c = record {
  can = search rules;
  finite = search rules;
  whole = search rules;
  count = search rules;
  puts = puts-none c.args.works.now c.args.source c.args.top.now.items;
}

pub put-requires-clause-may : goal.put-requires-clause-may
put-requires-clause-may g c κs within =
    let yields = YieldsList-from_vec {s = c.into_iter-elem-iterator.result} c.args.elems.items
    (search rules) (search rules) in
    let so_far = YieldsList-so_far yields c.elems.yielded c.elems.elem-iterator
    c.elems.yielded_by in
    let turn = YieldsList-turn yields c.elems.yielded c.elems.elem-iterator c.elems.yielded_by
    c.next.result c.next.new.self c.in-Some.elem c.in-Some.is c.next.ensures.steps in
    let rest = prefix-at c.args.elems.items c.elems.yielded c.in-Some.elem so_far turn in
    may-come c.args.works.now c.elems.works c.args.source (map message.Elem c.elems.yielded)
    (map message.Elem rest.0) c.args.top.now.items c.elems.top.items (message.Elem c.in-Some.elem)
    (subst (λ (ms : List Message). CanPutAll c.args.works.now c.args.source ms)
    (split-map c.args.elems.items c.elems.yielded rest.0 c.in-Some.elem rest.1) c.requires.can)
    (omega (arith, c.requires.in_range, c.elems.invariant.count)) c.elems.invariant.puts

pub elems-preserved : goal.elems-preserved
elems-preserved g c = record {
  can = search rules;
  finite = search rules;
  whole = search rules;
  count = search rules;
  puts = puts-elem c.args.works.now c.elems.works c.put.new.self c.args.source c.elems.yielded
      c.in-Some.elem c.args.top.now.items c.elems.top.items c.put.new.out.items
      c.elems.invariant.puts c.in_ok-put.ensures.puts;
}

pub returns-clause-puts : goal.returns-clause-puts
returns-clause-puts g c =
    let end = YieldsList-end (YieldsList-from_vec {s = c.into_iter-elem-iterator.result}
    c.args.elems.items (search rules) (search rules))
    c.elems.yielded c.elems.elem-iterator c.elems.yielded_by c.next.result c.next.new.self
    c.in-None.is c.next.ensures.steps in
    subst (λ (l : List Elem). PutsAll c.args.works.now c.elems.works c.args.source
    (map message.Elem l) c.args.top.now.items c.elems.top.items)
    (sym (map-id c.elems.yielded) ∙ end.0) c.elems.invariant.puts
