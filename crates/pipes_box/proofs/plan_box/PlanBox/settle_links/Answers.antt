use Rattle.std.proofs.Common.{◌≡◌, ◌∙◌, List, length, ap, sym, subst, refl}
use Rattle.std.specs.Vec.{with_items}
use Rattle.std.proofs.lemmas.List.{with_items_is}
use Rattle.pipes_node.specs.declared.node.Node.{Node}
use Rattle.pipes_box.specs.declared.plan_box.PlanBox.{PlanBox}
use Rattle.pipes_box.specs.Networks.{SettlesPorts}
use Rattle.pipes_box.proofs.Rounds.{settled-stands}
use Rattle.pipes_box.proofs.plan_box.PlanBox.settle_links.Goals as goal

pub returns-clause-stands : goal.returns-clause-stands
returns-clause-stands c =
    let old : PlanBox = c.args.self.now in
    let ws : List Node = c.settle_all.new.nodes in
    let settles : SettlesPorts old.nodes.items ws (length old.nodes.items) 0 =
    subst (λ (ns : List Node). SettlesPorts ns ws (length ns) 0) c.as_mut_slice.ensures.value
    c.settle_all.ensures in
    let written : (with_items old.nodes ws).items ≡ ws = with_items_is old.nodes ws (settles.count
    ∙ sym old.nodes.ok.0) in
    let new : PlanBox = record {
      nodes = with_items old.nodes ws;
      top = old.top;
      leaves =
          old.leaves;
      ended = old.ended;
      failed = old.failed;
    } in
    settled-stands old new c.requires
    (subst (λ (ns : List Node). SettlesPorts old.nodes.items ns (length old.nodes.items) 0)
    (sym written) settles) refl refl refl refl

pub returns-clause-links : goal.returns-clause-links
returns-clause-links c =
    let old : PlanBox = c.args.self.now in
    let ws : List Node = c.settle_all.new.nodes in
    let settles : SettlesPorts old.nodes.items ws (length old.nodes.items) 0 =
    subst (λ (ns : List Node). SettlesPorts ns ws (length ns) 0) c.as_mut_slice.ensures.value
    c.settle_all.ensures in
    let written : (with_items old.nodes ws).items ≡ ws = with_items_is old.nodes ws (settles.count
    ∙ sym old.nodes.ok.0) in
    subst (λ (ns : List Node). SettlesPorts old.nodes.items ns (length old.nodes.items) 0)
    (sym written)
    settles
