use Rattle.std.proofs.Common.{◌≡◌, ◌+◌, ◌<◌, ◌≤◌, ℕ, ◌∙◌, ap, arith, length, get_or, inl, inr}
use Rattle.std.proofs.Common.{subst, sym}
use Rattle.std.proofs.lemmas.Bool.{cases_lt}
use Rattle.pipes_link.specs.Ends.{ready}
use Rattle.pipes_node.specs.declared.port.Port.{Port}
use Rattle.pipes_node.specs.Nodes.{total_ready}
use Rattle.pipes_node.proofs.NodeSteps.{total_ready-small, total_ready-none, node_moves-then}
use Rattle.pipes_node.proofs.node.Node.take_all.Goals as goal

pub overflow_add-taken : goal.overflow_add-taken
overflow_add-taken c =
    omega (
      arith,
      total_ready-small c.args.self.now.ports.items c.requires.counted.few,
      c.loop-port.invariant.number,
      c.in_ok-taken.ensures.number,
    )

pub loop-port-preserved : goal.loop-port-preserved
loop-port-preserved c = record {
  counted = c.take_port.ensures.counted;
  moves = node_moves-then _ _ _ c.loop-port.invariant.moves c.take_port.ensures.moves;
  stands = λ s. c.in_ok-taken.ensures.stands (c.loop-port.invariant.stands s);
  number = omega (arith, c.loop-port.invariant.number, c.in_ok-taken.ensures.number);
  drained = λ k d small there.
      let before : k < length c.loop-port.self.ports.items =
      omega (arith, there, c.take_port.ensures.moves.count) in
      elim (cases_lt k c.loop-port.port) [
        | inl h ↦ omega (
          arith,
          c.loop-port.invariant.drained k d h before,
          (c.take_port.ensures.moves.ports k d before).fewer,
        )
        | inr h ↦ let e : c.loop-port.port ≡ k = omega (arith, h, small) in
            subst (λ (z : ℕ). z < length c.take_port.new.self.ports.items
            → ready (get_or c.take_port.new.self.ports.items z d).inlet ≡ 0) e
            (c.in_ok-taken.ensures.drained d) there
      ];
  idle = λ h. c.in_ok-taken.ensures.idle (omega (arith, h)) ∙ c.loop-port.invariant.idle
      (omega (arith, h));
  going = c.take_port.ensures.going ∙ c.loop-port.invariant.going;
  outlet = c.take_port.ensures.outlet ∙ c.loop-port.invariant.outlet;
}

pub returns-clause-drained : goal.returns-clause-drained
returns-clause-drained c =
    total_ready-none c.loop-port.self.ports.items c.loop-port.invariant.counted.few
    (λ k d h. c.loop-port.invariant.drained k d (omega (
      arith,
      h,
      c.loop-port-test.false,
      c.loop-port.invariant.moves.count,
    )) h)

pub returns-clause-number : goal.returns-clause-number
returns-clause-number c =
    let none = total_ready-none c.loop-port.self.ports.items c.loop-port.invariant.counted.few
    (λ k d h. c.loop-port.invariant.drained k d (omega (
      arith,
      h,
      c.loop-port-test.false,
      c.loop-port.invariant.moves.count,
    )) h) in
    omega (arith, none, c.loop-port.invariant.number)
