use Rattle.std.proofs.Common.{◌≡◌, ◌<◌, ◌∙◌, ℕ, false, List, length, get_or, ap, sym, subst, refl}
use Rattle.std.specs.Vec.{with_items}
use Rattle.std.proofs.lemmas.List.{with_items_is}
use Rattle.pipes_node.specs.declared.node.Node.{Node}
use Rattle.pipes_box.specs.declared.plan_box.PlanBox.{PlanBox}
use Rattle.pipes_node.specs.Nodes.{NodeTurned}
use Rattle.pipes_box.proofs.Rounds.{renews-sound, turned-renews, turned-stands}
use Rattle.pipes_box.proofs.plan_box.PlanBox.turn_nodes.Goals as goal

pub returns-clause-sound : goal.returns-clause-sound
returns-clause-sound g c =
    let old : PlanBox = c.args.self.now in
    let ws : List Node = c.turn_all.new.nodes in
    let value : c.as_mut_slice.result.now ≡ old.nodes.items = c.as_mut_slice.ensures.value in
    let count : length ws ≡ length old.nodes.items = c.turn_all.ensures.count ∙ ap length value in
    let turned : (k : ℕ) (d : Node) → k < length old.nodes.items
    → NodeTurned (get_or old.nodes.items k d) (get_or ws k d) =
    subst (λ (ns : List Node). (k : ℕ) (d : Node) → k < length ns
    → NodeTurned (get_or ns k d) (get_or ws k d)) value c.turn_all.ensures.turned in
    let written : (with_items old.nodes ws).items ≡ ws = with_items_is old.nodes ws
    (count ∙ sym old.nodes.ok.0) in
    let new : PlanBox = record {
      nodes = with_items old.nodes ws;
      top = old.top;
      leaves =
          old.leaves;
      ended = old.ended;
      failed = c.has_failed-self.result;
    } in
    let turned' : (k : ℕ) (d : Node) → k < length old.nodes.items
    → NodeTurned (get_or old.nodes.items k d) (get_or new.nodes.items k d) =
    subst (λ (ns : List Node). (k : ℕ) (d : Node) → k < length old.nodes.items
    → NodeTurned (get_or old.nodes.items k d) (get_or ns k d)) (sym written) turned in
    let count' : length new.nodes.items ≡ length old.nodes.items = ap length written ∙ count in
    renews-sound old new (turned-renews old new c.requires.sound count' turned' refl refl refl
    (λ going. subst (λ (ns : List Node). (k : ℕ) (d : Node) → k < length ns
    → (get_or ns k d).failed ≡ false) c.as_slice.ensures.value (c.has_failed-self.ensures going)))
    c.requires.sound

pub returns-clause-stands : goal.returns-clause-stands
returns-clause-stands g c =
    let old : PlanBox = c.args.self.now in
    let ws : List Node = c.turn_all.new.nodes in
    let value : c.as_mut_slice.result.now ≡ old.nodes.items = c.as_mut_slice.ensures.value in
    let count : length ws ≡ length old.nodes.items = c.turn_all.ensures.count ∙ ap length value in
    let turned : (k : ℕ) (d : Node) → k < length old.nodes.items
    → NodeTurned (get_or old.nodes.items k d) (get_or ws k d) =
    subst (λ (ns : List Node). (k : ℕ) (d : Node) → k < length ns
    → NodeTurned (get_or ns k d) (get_or ws k d)) value c.turn_all.ensures.turned in
    let written : (with_items old.nodes ws).items ≡ ws = with_items_is old.nodes ws
    (count ∙ sym old.nodes.ok.0) in
    let new : PlanBox = record {
      nodes = with_items old.nodes ws;
      top = old.top;
      leaves =
          old.leaves;
      ended = old.ended;
      failed = c.has_failed-self.result;
    } in
    let turned' : (k : ℕ) (d : Node) → k < length old.nodes.items
    → NodeTurned (get_or old.nodes.items k d) (get_or new.nodes.items k d) =
    subst (λ (ns : List Node). (k : ℕ) (d : Node) → k < length old.nodes.items
    → NodeTurned (get_or old.nodes.items k d) (get_or ns k d)) (sym written) turned in
    let count' : length new.nodes.items ≡ length old.nodes.items = ap length written ∙ count in
    turned-stands old new c.requires.sound count' turned' refl refl refl
    (λ going. subst (λ (ns : List Node). (k : ℕ) (d : Node) → k < length ns
    → (get_or ns k d).failed ≡ false) c.as_slice.ensures.value (c.has_failed-self.ensures going))

pub returns-clause-turned : goal.returns-clause-turned
returns-clause-turned g c = λ going.
    let old : PlanBox = c.args.self.now in
    let ws : List Node = c.turn_all.new.nodes in
    let value : c.as_mut_slice.result.now ≡ old.nodes.items = c.as_mut_slice.ensures.value in
    let count : length ws ≡ length old.nodes.items = c.turn_all.ensures.count ∙ ap length value in
    let turned : (k : ℕ) (d : Node) → k < length old.nodes.items
    → NodeTurned (get_or old.nodes.items k d) (get_or ws k d) =
    subst (λ (ns : List Node). (k : ℕ) (d : Node) → k < length ns
    → NodeTurned (get_or ns k d) (get_or ws k d)) value c.turn_all.ensures.turned in
    let written : (with_items old.nodes ws).items ≡ ws = with_items_is old.nodes ws
    (count ∙ sym old.nodes.ok.0) in
    record {
      count = ap length written ∙ count;
      turned = subst (λ (ns : List Node). (k : ℕ) (d : Node) → k < length old.nodes.items
          → NodeTurned (get_or old.nodes.items k d) (get_or ns k d)) (sym written) turned;
      going = subst (λ (ns : List Node). (k : ℕ) (d : Node) → k < length ns
          → (get_or ns k d).failed ≡ false) c.as_slice.ensures.value
          (c.has_failed-self.ensures going);
    }
