use Rattle.std.proofs.Common.{◌≡◌, ◌<◌, ◌∙◌, ◌++◌, ◌∷◌, [], List, length, get_or, set, ap, sym}
use Rattle.std.proofs.Common.{subst, refl, append-nil}
use Rattle.std.specs.Vec.{with_item}
use Rattle.pipes_stream.specs.declared.message.Message.{Message}
use Rattle.pipes_link.specs.declared.outlet.Outlet.{Outlet}
use Rattle.pipes_link.specs.Ends.{sent, SameOutlet}
use Rattle.pipes_box.specs.declared.leaf.Leaf.{Leaf as PlanLeaf}
use Rattle.pipes_node.specs.declared.node.Node.{Node}
use Rattle.pipes_box.specs.declared.plan_box.PlanBox.{PlanBox}
use Rattle.pipes_node.proofs.NodeSteps.{get-any}
use Rattle.pipes_box.proofs.Looks.{with_outlet}
use Rattle.pipes_box.proofs.Giving.{LeafPut, put-sound, put-stands, put-stays}
use Rattle.pipes_box.proofs.Giving.{put-full}
use Rattle.pipes_box.proofs.plan_box.PlanBox.give.Goals as goal

pub returns-in-Ok-clause-sound : goal.returns-in-Ok-clause-sound
returns-in-Ok-clause-sound c =
    let old : PlanBox = c.args.self.now in
    let items : List Node = old.nodes.items in
    let p : PlanLeaf = c.index.result.now in
    let m : Node = c.index_mut.result.now in
    let out : Outlet Message = c.put.new.self in
    let there : p.node < length items = subst (λ (x : PlanLeaf). x.node < length items)
    (sym c.index.ensures) (c.requires.sound.leaves c.args.leaf p c.requires.in_range) in
    let read : (d : Node) → m ≡ get_or items p.node d = λ d. c.index_mut.ensures.value
    ∙ get-any items p.node m d there in
    let new : PlanBox = record {
      nodes = with_item old.nodes p.node (with_outlet m out);
      top =
          old.top;
      leaves = old.leaves;
      ended = old.ended;
      failed = old.failed;
    } in
    let put : LeafPut old new p.node (c.args.message ∷ []) = record {
      out = out;
      there = there;
      nodes = λ d. ap (λ (n : Node). set items p.node (with_outlet n out)) (read d);
      same_outlet = λ d. subst (λ (n : Node). SameOutlet n.outlet out)
          (read d) c.put.ensures.same_link;
      puts = λ d. subst (λ (n : Node). sent out ≡ sent n.outlet ++ (c.args.message ∷ [])) (read d)
          (c.in-Ok.ensures.put);
      top = refl;
      leaves = refl;
      ended = refl;
      failed = refl;
    } in
    put-sound old new p.node (c.args.message ∷ []) put m c.requires.sound

pub returns-in-Ok-clause-gave : goal.returns-in-Ok-clause-gave
returns-in-Ok-clause-gave c =
    let old : PlanBox = c.args.self.now in
    let items : List Node = old.nodes.items in
    let p : PlanLeaf = c.index.result.now in
    let m : Node = c.index_mut.result.now in
    let out : Outlet Message = c.put.new.self in
    let there : p.node < length items = subst (λ (x : PlanLeaf). x.node < length items)
    (sym c.index.ensures) (c.requires.sound.leaves c.args.leaf p c.requires.in_range) in
    let read : (d : Node) → m ≡ get_or items p.node d = λ d. c.index_mut.ensures.value
    ∙ get-any items p.node m d there in
    let new : PlanBox = record {
      nodes = with_item old.nodes p.node (with_outlet m out);
      top =
          old.top;
      leaves = old.leaves;
      ended = old.ended;
      failed = old.failed;
    } in
    let put : LeafPut old new p.node (c.args.message ∷ []) = record {
      out = out;
      there = there;
      nodes = λ d. ap (λ (n : Node). set items p.node (with_outlet n out)) (read d);
      same_outlet = λ d. subst (λ (n : Node). SameOutlet n.outlet out)
          (read d) c.put.ensures.same_link;
      puts = λ d. subst (λ (n : Node). sent out ≡ sent n.outlet ++ (c.args.message ∷ [])) (read d)
          (c.in-Ok.ensures.put);
      top = refl;
      leaves = refl;
      ended = refl;
      failed = refl;
    } in
    put-stands old new p.node (c.args.message ∷ []) put m c.requires.sound c.args.leaf p
    c.args.message c.requires.in_range (ap (λ (x : PlanLeaf). x.node) (sym c.index.ensures))
    refl

pub returns-in-Err-clause-sound : goal.returns-in-Err-clause-sound
returns-in-Err-clause-sound c =
    let old : PlanBox = c.args.self.now in
    let items : List Node = old.nodes.items in
    let p : PlanLeaf = c.index.result.now in
    let m : Node = c.index_mut.result.now in
    let out : Outlet Message = c.put.new.self in
    let there : p.node < length items = subst (λ (x : PlanLeaf). x.node < length items)
    (sym c.index.ensures) (c.requires.sound.leaves c.args.leaf p c.requires.in_range) in
    let read : (d : Node) → m ≡ get_or items p.node d = λ d. c.index_mut.ensures.value
    ∙ get-any items p.node m d there in
    let new : PlanBox = record {
      nodes = with_item old.nodes p.node (with_outlet m out);
      top =
          old.top;
      leaves = old.leaves;
      ended = old.ended;
      failed = old.failed;
    } in
    let put : LeafPut old new p.node ([]) = record {
      out = out;
      there = there;
      nodes = λ d. ap (λ (n : Node). set items p.node (with_outlet n out)) (read d);
      same_outlet = λ d. subst (λ (n : Node). SameOutlet n.outlet out)
          (read d) c.put.ensures.same_link;
      puts = λ d. subst (λ (n : Node). sent out ≡ sent n.outlet ++ ([])) (read d)
          (c.in-Err.ensures.full.1 ∙ sym (append-nil (sent m.outlet)));
      top = refl;
      leaves = refl;
      ended = refl;
      failed = refl;
    } in
    put-sound old new p.node [] put m c.requires.sound

pub returns-in-Err-clause-refused : goal.returns-in-Err-clause-refused
returns-in-Err-clause-refused c =
    let old : PlanBox = c.args.self.now in
    let items : List Node = old.nodes.items in
    let p : PlanLeaf = c.index.result.now in
    let m : Node = c.index_mut.result.now in
    let out : Outlet Message = c.put.new.self in
    let there : p.node < length items = subst (λ (x : PlanLeaf). x.node < length items)
    (sym c.index.ensures) (c.requires.sound.leaves c.args.leaf p c.requires.in_range) in
    let read : (d : Node) → m ≡ get_or items p.node d = λ d. c.index_mut.ensures.value
    ∙ get-any items p.node m d there in
    let new : PlanBox = record {
      nodes = with_item old.nodes p.node (with_outlet m out);
      top =
          old.top;
      leaves = old.leaves;
      ended = old.ended;
      failed = old.failed;
    } in
    let put : LeafPut old new p.node ([]) = record {
      out = out;
      there = there;
      nodes = λ d. ap (λ (n : Node). set items p.node (with_outlet n out)) (read d);
      same_outlet = λ d. subst (λ (n : Node). SameOutlet n.outlet out)
          (read d) c.put.ensures.same_link;
      puts = λ d. subst (λ (n : Node). sent out ≡ sent n.outlet ++ ([])) (read d)
          (c.in-Err.ensures.full.1 ∙ sym (append-nil (sent m.outlet)));
      top = refl;
      leaves = refl;
      ended = refl;
      failed = refl;
    } in
    put-stays old new p.node [] put m c.requires.sound refl

pub returns-in-Err-clause-no_place : goal.returns-in-Err-clause-no_place
returns-in-Err-clause-no_place c =
    let old : PlanBox = c.args.self.now in
    let items : List Node = old.nodes.items in
    let p : PlanLeaf = c.index.result.now in
    let m : Node = c.index_mut.result.now in
    let out : Outlet Message = c.put.new.self in
    let there : p.node < length items = subst (λ (x : PlanLeaf). x.node < length items)
    (sym c.index.ensures) (c.requires.sound.leaves c.args.leaf p c.requires.in_range) in
    let read : (d : Node) → m ≡ get_or items p.node d = λ d. c.index_mut.ensures.value
    ∙ get-any items p.node m d there in
    let new : PlanBox = record {
      nodes = with_item old.nodes p.node (with_outlet m out);
      top =
          old.top;
      leaves = old.leaves;
      ended = old.ended;
      failed = old.failed;
    } in
    let put : LeafPut old new p.node ([]) = record {
      out = out;
      there = there;
      nodes = λ d. ap (λ (n : Node). set items p.node (with_outlet n out)) (read d);
      same_outlet = λ d. subst (λ (n : Node). SameOutlet n.outlet out)
          (read d) c.put.ensures.same_link;
      puts = λ d. subst (λ (n : Node). sent out ≡ sent n.outlet ++ ([])) (read d)
          (c.in-Err.ensures.full.1 ∙ sym (append-nil (sent m.outlet)));
      top = refl;
      leaves = refl;
      ended = refl;
      failed = refl;
    } in
    put-full old new p.node [] put m c.args.leaf p
    (ap (λ (x : PlanLeaf). x.node) (sym c.index.ensures)) c.in-Err.ensures.full.2
