use Rattle.std.proofs.Common.{◌≡◌, ◌≤◌, ◌<◌, ◌∙◌, ap, arith, List, length, get_or}
use Rattle.pipes_node.specs.declared.node.Node.{Node}
use Rattle.pipes_node.proofs.NodeSteps.{get-any}
use Rattle.pipes_box.proofs.Looks.{linked-settled, settles-next, settles-node}
use Rattle.pipes_box.proofs.settling.settle_ports.Goals as goal

pub loop-port-preserved : goal.loop-port-preserved
loop-port-preserved c =
    let there : c.args.parent < length c.loop-port.nodes = omega
    (arith, c.requires.in_range, c.loop-port.invariant.count) in
    record {
      count = c.settle_port.ensures.count ∙ c.loop-port.invariant.count;
      linked = linked-settled c.loop-port.nodes c.settle_port.new.nodes c.args.parent
          c.loop-port.port there c.loop-port.invariant.linked c.settle_port.ensures;
      ports = λ d. (c.settle_port.ensures.looks c.args.parent d there).count
          ∙ c.loop-port.invariant.ports d;
      settles = λ first s. settles-next first c.loop-port.nodes c.settle_port.new.nodes
          c.args.parent c.loop-port.port there (c.loop-port.invariant.settles first s)
          c.settle_port.ensures;
    }

pub returns-clause-settles : goal.returns-clause-settles
returns-clause-settles c = λ first s.
    settles-node first c.loop-port.nodes c.args.parent c.loop-port.port
    (λ d. omega (
      arith,
      c.loop-port-test.false,
      ap length c.as_slice-port-end.ensures.value,
      c.loop-port.invariant.ports d,
      ap (λ (n : Node). length n.ports.items)
          (get-any c.args.nodes.now c.args.parent c.index-nodes-parent.result d
          c.requires.in_range),
    ))
    (c.loop-port.invariant.settles first s)
