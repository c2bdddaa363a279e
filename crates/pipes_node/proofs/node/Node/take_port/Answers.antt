use Rattle.std.proofs.Common.{◌≡◌, ◌+◌, ◌∙◌, ap, List, arith}
use Rattle.pipes_node.specs.declared.port.Port.{Port}
use Rattle.pipes_node.specs.Nodes.{total_ready}
use Rattle.pipes_node.proofs.NodeSteps.{total_ready-small}
use Rattle.pipes_node.proofs.node.Node.take_port.Goals as goal

pub overflow_add-taken : goal.overflow_add-taken
overflow_add-taken c =
    let few = total_ready-small c.args.self.now.ports.items c.requires.counted.few in
    let took : total_ready c.loop-taken.self.ports.items ≡ total_ready
    c.take_one.new.self.ports.items + 1 = rw c.if-branch.true at
    c.in_ok-take_one.ensures.took in
    omega (arith, few, c.loop-taken.invariant.number, took)

pub returns-clause-number : goal.returns-clause-number
returns-clause-number c =
    let same : c.take_one.new.self.ports.items ≡ c.loop-taken.self.ports.items =
    rw c.if-branch.false at c.in_ok-take_one.ensures.same in
    let ready : total_ready c.take_one.new.self.ports.items ≡ total_ready
    c.loop-taken.self.ports.items = ap total_ready same in
    let merged : total_ready c.merge.new.self.ports.items ≡ total_ready
    c.take_one.new.self.ports.items = ap (λ ports. total_ready ports.items)
    c.merge.ensures.ports in
    omega (arith, merged, ready, c.loop-taken.invariant.number)
