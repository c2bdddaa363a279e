use Rattle.std.proofs.Common.{arith}
use Rattle.pipes_link.specs.Ends.{ready}
use Rattle.pipes_node.specs.declared.port.Port.{Port}
use Rattle.pipes_node.proofs.Totals.{sum-more}
use Rattle.pipes_node.proofs.port.total_known.Goals as goal

pub loop-port-preserved : goal.loop-port-preserved
loop-port-preserved c = record {
  value = omega (
    arith,
    c.loop-port.invariant.value,
    c.known_count-known.ensures.answer,
    sum-more (λ (p : Port). ready p.inlet) c.args.ports.now c.loop-port.port-index
        c.port-item.result (omega arith) c.port-item.is,
  );
  small = omega (arith, c.loop-port.invariant.small, c.known_count-known.ensures.bound);
}
