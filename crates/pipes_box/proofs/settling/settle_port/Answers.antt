use Rattle.std.proofs.Common.{◌≡◌, ◌<◌, ℕ, refl, sym, ◌∙◌, ap, subst, List, length, get_or}
use Rattle.pipes_node.specs.declared.node.Node.{Node}
use Rattle.pipes_node.specs.declared.port.Port.{Port}
use Rattle.pipes_box.specs.Networks.{PortSettled, SettledLink}
use Rattle.pipes_node.specs.Nodes.{PortLooks}
use Rattle.pipes_node.proofs.NodeSteps.{get-any}
use Rattle.pipes_box.proofs.Pieces.{set-parts, get-front, get-back}
use Rattle.pipes_box.proofs.Looks.{port-settled, port-read, with_outlet, with_port}
use Rattle.pipes_box.proofs.settling.settle_port.Goals as goal

pub returns : goal.returns
returns c =
    let ns : List Node = c.args.nodes.now in
    let prefix : List Node = c.split_at_mut-earlier.result.0.now in
    let back : List Node = c.split_at_mut-earlier.result.1.now in
    let p : Port = c.index.result.now in
    let u : Node = get_or prefix p.child c.index-earlier-child.result in
    let o : Node = get_or back 0 c.index-rest-0.result in
    let m : Port = c.index_mut.result.now in
    let q : Port = record {
      inlet = c.settle.new.inlet;
      watch = m.watch;
      schema = m.schema;
      child =
          m.child;
    } in
    let read : (d : Node) (e : Port) → p ≡ get_or (get_or ns c.args.parent d).ports.items
    c.args.port e =
    port-read ns c.args.parent c.args.port c.index-nodes-parent.result p c.requires.in_range
    c.requires.has_port c.index.ensures in
    let earlier : p.child < c.args.parent = subst (λ (x : Port). x.child < c.args.parent)
    (sym (read u p)) (c.requires.linked.earlier c.args.parent u c.args.port p
    c.requires.in_range (c.requires.has_port u)) in
    let u-is : (d : Node) → get_or ns p.child d ≡ u = λ d. sym
    (get-front ns prefix c.args.parent p.child c.index-earlier-child.result d
    c.split_at_mut-earlier.ensures.front earlier c.requires.in_range) in
    let o-is : (d : Node) → get_or ns c.args.parent d ≡ o = λ d. sym
    (get-back ns back c.args.parent c.index-rest-0.result d
    c.split_at_mut-earlier.ensures.back c.requires.in_range) in
    let small : c.args.port < length o.ports.items =
    subst (λ (n : Node). c.args.port < length n.ports.items) (o-is u)
    (c.requires.has_port u) in
    subst (λ (xs : List Node). PortSettled ns xs c.args.parent c.args.port)
    (sym (set-parts ns prefix back c.args.parent p.child (with_outlet u c.settle.new.outlet)
    (with_port o c.args.port q) c.split_at_mut-earlier.ensures.front
    c.split_at_mut-earlier.ensures.back earlier c.requires.in_range))
    (port-settled ns c.args.parent c.args.port p.child u o c.settle.new.outlet q earlier
    c.requires.in_range u-is o-is small
    (λ e. ap (λ (n : Node). (get_or n.ports.items c.args.port e).child) (sym (o-is u))
    ∙ ap (λ (x : Port). x.child) (sym (read u e)))
    c.settle.ensures.same_outlet c.settle.ensures.outlet.0 c.settle.ensures.outlet.1
    (λ e. subst (λ (x : Port). PortLooks x q) (c.index_mut.ensures.value
    ∙ get-any o.ports.items c.args.port m e small)
    (record {
      same_link = c.settle.ensures.same_inlet;
      watch = refl;
      schema = refl;
      child =
          refl;
      taken = c.settle.ensures.inlet.0;
    }))
    (record { waits = c.settle.ensures.waits; all_known = c.settle.ensures.all_known }))
