use Rattle.std.proofs.Common.{◌≡◌, ◌≤◌, ◌+◌, ◌-◌, ◌∙◌, ℕ, List, length, get_or, set, ap, subst}
use Rattle.std.proofs.Common.{refl, arith}
use Rattle.pipes_stream.specs.declared.message.Message.{Message}
use Rattle.pipes_link.specs.declared.outlet.Outlet.{Outlet}
use Rattle.pipes_link.specs.Ends.{sent, spare, SameOutlet}
use Rattle.std.specs.Vec.{with_item}
use Rattle.pipes_node.specs.declared.node.Node.{Node}
use Rattle.pipes_box.specs.declared.plan_box.PlanBox.{PlanBox}
use Rattle.pipes_node.proofs.NodeSteps.{get-any}
use Rattle.pipes_box.proofs.Looks.{with_outlet}
use Rattle.pipes_box.proofs.Rounds.{top-sound, top-stands, top-looked}
use Rattle.pipes_box.proofs.plan_box.PlanBox.settle_top.Goals as goal

pub returns-clause-sound : goal.returns-clause-sound
returns-clause-sound c =
    let items : List Node = c.args.self.now.nodes.items in
    let out : Outlet Message = c.settle.new.outlet in
    let m : Node = c.index_mut.result.now in
    let len : length c.as_slice.result.now ≡ length items = ap length c.as_slice.ensures.value in
    let root : ℕ = length c.as_slice.result.now - 1 in
    let is : root + 1 ≡ length items = omega (arith, len, c.requires.root_is) in
    let new : PlanBox = record {
      nodes = with_item c.args.self.now.nodes root (with_outlet m out);
      top = c.settle.new.inlet;
      leaves = c.args.self.now.leaves;
      ended = c.args.self.now.ended;
      failed =
          c.args.self.now.failed;
    } in
    let read : (d : Node) → m ≡ get_or items root d = λ d. c.index_mut.ensures.value
    ∙ get-any items root m d (omega (arith, is)) in
    top-sound c.args.self.now new out (record {
      root = root;
      root_is = is;
      nodes = λ d. ap (λ (n : Node). set items root (with_outlet n out)) (read d);
      same_outlet = λ d. subst (λ (n : Node). SameOutlet n.outlet out)
          (read d) c.settle.ensures.same_outlet;
      sent_same = λ d. subst (λ (n : Node). sent out ≡ sent n.outlet)
          (read d) c.settle.ensures.outlet.0;
      spare_more = λ d. subst (λ (n : Node). spare n.outlet ≤ spare out)
          (read d) c.settle.ensures.outlet.1;
      waits = c.settle.ensures.waits;
      ends = c.settle.ensures.ends;
      taken_same = c.settle.ensures.inlet.0;
      leaves = refl;
      ended = refl;
      failed = refl;
    }) m c.requires

pub returns-clause-stands : goal.returns-clause-stands
returns-clause-stands c =
    let items : List Node = c.args.self.now.nodes.items in
    let out : Outlet Message = c.settle.new.outlet in
    let m : Node = c.index_mut.result.now in
    let len : length c.as_slice.result.now ≡ length items = ap length c.as_slice.ensures.value in
    let root : ℕ = length c.as_slice.result.now - 1 in
    let is : root + 1 ≡ length items = omega (arith, len, c.requires.root_is) in
    let new : PlanBox = record {
      nodes = with_item c.args.self.now.nodes root (with_outlet m out);
      top = c.settle.new.inlet;
      leaves = c.args.self.now.leaves;
      ended = c.args.self.now.ended;
      failed =
          c.args.self.now.failed;
    } in
    let read : (d : Node) → m ≡ get_or items root d = λ d. c.index_mut.ensures.value
    ∙ get-any items root m d (omega (arith, is)) in
    top-stands c.args.self.now new out (record {
      root = root;
      root_is = is;
      nodes = λ d. ap (λ (n : Node). set items root (with_outlet n out)) (read d);
      same_outlet = λ d. subst (λ (n : Node). SameOutlet n.outlet out)
          (read d) c.settle.ensures.same_outlet;
      sent_same = λ d. subst (λ (n : Node). sent out ≡ sent n.outlet)
          (read d) c.settle.ensures.outlet.0;
      spare_more = λ d. subst (λ (n : Node). spare n.outlet ≤ spare out)
          (read d) c.settle.ensures.outlet.1;
      waits = c.settle.ensures.waits;
      ends = c.settle.ensures.ends;
      taken_same = c.settle.ensures.inlet.0;
      leaves = refl;
      ended = refl;
      failed = refl;
    }) m c.requires

pub returns-clause-looks : goal.returns-clause-looks
returns-clause-looks c =
    let items : List Node = c.args.self.now.nodes.items in
    let out : Outlet Message = c.settle.new.outlet in
    let m : Node = c.index_mut.result.now in
    let len : length c.as_slice.result.now ≡ length items = ap length c.as_slice.ensures.value in
    let root : ℕ = length c.as_slice.result.now - 1 in
    let is : root + 1 ≡ length items = omega (arith, len, c.requires.root_is) in
    let new : PlanBox = record {
      nodes = with_item c.args.self.now.nodes root (with_outlet m out);
      top = c.settle.new.inlet;
      leaves = c.args.self.now.leaves;
      ended = c.args.self.now.ended;
      failed =
          c.args.self.now.failed;
    } in
    let read : (d : Node) → m ≡ get_or items root d = λ d. c.index_mut.ensures.value
    ∙ get-any items root m d (omega (arith, is)) in
    top-looked c.args.self.now new out (record {
      root = root;
      root_is = is;
      nodes = λ d. ap (λ (n : Node). set items root (with_outlet n out)) (read d);
      same_outlet = λ d. subst (λ (n : Node). SameOutlet n.outlet out)
          (read d) c.settle.ensures.same_outlet;
      sent_same = λ d. subst (λ (n : Node). sent out ≡ sent n.outlet)
          (read d) c.settle.ensures.outlet.0;
      spare_more = λ d. subst (λ (n : Node). spare n.outlet ≤ spare out)
          (read d) c.settle.ensures.outlet.1;
      waits = c.settle.ensures.waits;
      ends = c.settle.ensures.ends;
      taken_same = c.settle.ensures.inlet.0;
      leaves = refl;
      ended = refl;
      failed = refl;
    }) m c.settle.ensures.inlet.2 c.settle.ensures.all_known
