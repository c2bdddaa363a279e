use Rattle.std.proofs.Common.{◌≡◌, ◌<◌, ℕ, ◌∙◌, ap, arith, subst, sym, get_or, set, length}
use Rattle.std.proofs.Common.{length-set, inl, inr}
use Rattle.std.proofs.lemmas.List.{get_or-set_same, get_or-set_other}
use Rattle.pipes_node.specs.declared.node.Node.{Node}
use Rattle.pipes_node.specs.Nodes.{NodeTurned}
use Rattle.pipes_node.proofs.NodeSteps.{place, get-any}
use Rattle.pipes_node.proofs.turning.turn_here.Goals as goal

pub loop-k-preserved : goal.loop-k-preserved
loop-k-preserved g c = record {
  count = length-set c.loop-k.nodes c.loop-k.k c.turn_one.new.node ∙ c.loop-k.invariant.count;
  turned = λ j d l.
      let small : c.loop-k.k < length c.loop-k.nodes = omega
      (arith, c.loop-k-test.true, c.loop-k.invariant.count) in
      elim (place j c.loop-k.k) [
        | inl e ↦
            subst (λ (z : ℕ). NodeTurned (get_or c.args.nodes.now z d)
            (get_or (set c.loop-k.nodes c.loop-k.k c.turn_one.new.node) z d)) (sym e)
            (subst (NodeTurned (get_or c.args.nodes.now c.loop-k.k d))
            (sym (get_or-set_same c.loop-k.nodes c.loop-k.k c.turn_one.new.node d small))
            (subst (λ (n : Node). NodeTurned n c.turn_one.new.node)
            (get-any c.loop-k.nodes c.loop-k.k c.index-nodes-k.result d small
            ∙ c.loop-k.invariant.same c.loop-k.k d (omega arith)) c.turn_one.ensures))
        | inr n ↦ subst (NodeTurned (get_or c.args.nodes.now j d))
            (sym (get_or-set_other c.loop-k.nodes c.loop-k.k j c.turn_one.new.node d n))
            (c.loop-k.invariant.turned j d (omega (arith, l, n)))
      ];
  same = λ j d l. get_or-set_other c.loop-k.nodes c.loop-k.k j c.turn_one.new.node d
      (λ e. absurd (omega (arith, e, l))) ∙ c.loop-k.invariant.same j d (omega (arith, l));
}
