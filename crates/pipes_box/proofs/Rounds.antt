-- What a round leaves of a box.
use Rattle.std.proofs.Common.{◌≡◌, ℕ, zero, suc, ◌+◌, ◌≤◌, ◌<◌, false, List, [], ◌∷◌, ◌++◌, length}
use Rattle.std.proofs.Common.{get_or, set, length-set, inl, inr, Option, Some, None, refl, sym, ◌∙◌}
use Rattle.std.proofs.Common.{ap, subst, arith, append_assoc, append-nil, length-append}
use Rattle.std.specs.Prelude.{IfSome, IfNone}
use Rattle.std.proofs.lemmas.List.{get_or-set_same, get_or-set_other}
use Rattle.pipes_tuple.specs.declared.value.Kind.{Kind}
use Rattle.pipes_stream.specs.declared.message.Message.{Message}
use Rattle.pipes_stream.specs.Progress.{Progress}
use Rattle.pipes_stream.specs.Lists.{start_of_list, run, after}
use Rattle.pipes_stream.proofs.Messages.{run-push}
use Rattle.pipes_stream.specs.Lawful.{Lists, Task}
use Rattle.pipes_link.specs.declared.outlet.Outlet.{Outlet}
use Rattle.pipes_link.specs.declared.inlet.Inlet.{Inlet}
use Rattle.pipes_link.specs.Ends.{sent, spare, room_of, taken, known, ready, AreEnds, SameOutlet}
use Rattle.pipes_link.specs.Ends.{SameInlet}
use Rattle.pipes_link.proofs.Keeping.{ends_keep, same_inlet_self, same_outlet_self}
use Rattle.pipes_plan.specs.declared.plan.Plan.{Plan}
use Rattle.pipes_node.specs.declared.operator.PlanOperator.{PlanOperator}
use Rattle.pipes_node.specs.declared.port.Port.{Port}
use Rattle.pipes_node.specs.declared.node.Node.{Node}
use Rattle.pipes_box.specs.declared.plan_box.PlanBox.{PlanBox}
use Rattle.pipes_node.specs.Nodes.{IsCounted, EmitsIn, NodeStands, NodeLooks, PortLooks, PortStands}
use Rattle.pipes_node.specs.Nodes.{NodeMoves, PortMoves, NodeTurned, Turned, total_ready, task_in}
use Rattle.pipes_node.specs.Nodes.{ports_of, kinds_at, PutOf, NodeStood, NodeHolds}
use Rattle.pipes_node.specs.Passing.{Passes}
use Rattle.pipes_box.specs.Shapes.{Shape, Leaf, One, Two, shape_of, node_count, leaf_count}
use Rattle.pipes_box.specs.Shapes.{IsProper}
use Rattle.pipes_box.specs.Networks.{EndsHold, LinkHolds, IsLinked, IsWired, IsSpot}
use Rattle.pipes_box.specs.Networks.{IsNumbered, LeavesGave, ChildAt, root_of, SettlesPorts}
use Rattle.pipes_box.specs.Boxes.{IsSound, BoxStands}
use Rattle.pipes_box.specs.Rounds.{TopLooks}
use Rattle.pipes_node.proofs.NodeSteps.{place, get-any}
use Rattle.pipes_node.proofs.Stood.{refused-or-going, has-gone}
use Rattle.pipes_box.proofs.Looks.{node_looks-self, looks-outlet, with_outlet, deeper-kept}

-- ---- a look at the links

-- a look changes nothing of what a node stands for
looks-stands : (a b : Node) → NodeLooks a b → NodeStands a → NodeStands b
looks-stands a b l s = record {
  passed = s.passed;
  ports = λ k d h.
      let small : k < length a.ports.items = omega (arith, h, l.count) in
      let p = s.ports k d small in
      let q = l.ports k d small in
      record {
        passes = subst (λ (ks : List Kind). Passes ks start_of_list
            (taken (get_or b.ports.items k d).inlet) (s.passed k)) (sym q.schema)
            (subst (λ (xs : List Message). Passes (get_or a.ports.items k d).schema start_of_list xs
            (s.passed k)) (sym q.taken) p.passes);
        watch = q.watch ∙ p.watch;
      };
  kinds = λ k d h.
      let small : k < length a.ports.items = omega (arith, h, l.count) in
      ap (λ (o : Option PlanOperator). kinds_at (task_in o) k) l.operator ∙ s.kinds k d small
      ∙ sym (l.ports k d small).schema;
  emits = subst (λ (o : Option PlanOperator). EmitsIn o s.passed (sent b.outlet) b.pending.items)
      (sym l.operator)
      (subst (λ (xs : List Message). EmitsIn a.operator s.passed xs b.pending.items) (sym l.sent)
      (subst (λ v. EmitsIn a.operator s.passed (sent a.outlet) v.items) (sym l.pending)
      s.emits));
}

looks-stood : (a b : Node) → NodeLooks a b → NodeStood a → NodeStood b
looks-stood a b l s = record {
  passed = s.passed;
  ports = λ k d h.
      let small : k < length a.ports.items = omega (arith, h, l.count) in
      let p = s.ports k d small in
      let q = l.ports k d small in (
        p.0,
        subst (λ (ks : List Kind). Passes ks start_of_list (taken (get_or b.ports.items k d).inlet)
            (s.passed k ++ p.0)) (sym q.schema)
            (subst (λ (xs : List Message). Passes (get_or a.ports.items k d).schema start_of_list xs
            (s.passed k ++ p.0)) (sym q.taken) p.1),
      );
  kinds = λ k d h.
      let small : k < length a.ports.items = omega (arith, h, l.count) in
      ap (λ (o : Option PlanOperator). kinds_at (task_in o) k) l.operator ∙ s.kinds k d small
      ∙ sym (l.ports k d small).schema;
  puts = subst (λ (o : Option PlanOperator). PutOf (task_in o) s.passed (sent b.outlet))
      (sym l.operator)
      (subst (λ (xs : List Message). PutOf (task_in a.operator) s.passed xs) (sym l.sent) s.puts);
}

pub looks-holds : (a b : Node) → NodeLooks a b → NodeHolds a → NodeHolds b
looks-holds a b l h = record {
  stood = looks-stood a b l h.stood;
  stands = λ going. looks-stands a b l (h.stands (sym l.failed ∙ going));
}

-- what a node keeps in a look and in a turn
pub record NodeKeeps (a b : Node) : Type 0 where
  pub task : task_in b.operator ≡ task_in a.operator
  pub number : b.number ≡ a.number
  pub depth : b.depth ≡ a.depth
  pub child : (k : ℕ) (d : Port) → k < length a.ports.items → (get_or b.ports.items k d).child ≡
      (get_or a.ports.items k d).child

pub looks-keeps : (a b : Node) → NodeLooks a b → NodeKeeps a b
looks-keeps a b l = record {
  task = ap task_in l.operator;
  number = l.number;
  depth = l.depth;
  child = λ k d h. (l.ports k d h).child;
}

pub moves-keeps : (a b : Node) → NodeMoves a b → NodeKeeps a b
moves-keeps a b m = record {
  task = m.task;
  number = m.number;
  depth = m.depth;
  child = λ k d h. (m.ports k d h).child;
}

-- a node without a task has no port, and nothing is pending with it
pub no-task : (o : Option PlanOperator) → task_in o ≡ None → o ≡ None
no-task None h = refl
no-task (Some op) h = absurd (some-none op h) where
  some-none : (op : PlanOperator) → task_in (Some op) ≡ None → ⊥
  some-none op h = cc

source-quiet : (n : Node) → task_in n.operator ≡ None → NodeStands n → n.pending.items ≡ []
source-quiet n t s = subst (λ (o : Option PlanOperator). EmitsIn o s.passed (sent n.outlet)
    n.pending.items) (no-task n.operator t) s.emits

no-ports : (ps : List Port) → length ps ≡ 0 → total_ready ps ≡ 0
no-ports [] h = refl
no-ports (p ∷ ps) h = absurd (omega (arith, h))

pub no-more : (xs : List Message) → length xs ≡ 0 → xs ≡ []
no-more [] h = refl
no-more (x ∷ xs) h = absurd (omega (arith, h))

-- a turn of a source puts nothing
source-turn : (a b : Node) → task_in a.operator ≡ None → IsCounted a → NodeStands a
    → NodeMoves a b → Turned a b → sent b.outlet ≡ sent a.outlet
source-turn a b t counted s m turned =
    let none : length a.ports.items ≡ 0 = sym counted.count ∙ ap ports_of t in
    let quiet : length a.pending.items ≡ 0 = ap length (source-quiet a t s) in
    let put : turned.put ≡ 0 = omega (arith, turned.kept (no-ports a.ports.items none), quiet) in
    let same : length (sent b.outlet) ≡ length (sent a.outlet) = omega (arith, turned.sent, put) in
    let more : length m.puts.0 ≡ 0 = omega (
      arith,
      same,
      ap length m.puts.1,
      length-append (sent a.outlet) m.puts.0,
    ) in
    m.puts.1 ∙ ap (λ (xs : List Message). sent a.outlet ++ xs) (no-more m.puts.0 more)
    ∙ append-nil (sent a.outlet)

pub turned-source : (a b : Node) → task_in a.operator ≡ None → IsCounted a → NodeHolds a
    → NodeTurned a b → sent b.outlet ≡ sent a.outlet
turned-source a b t counted h turned =
    elim (refused-or-going b) [
      | inl e ↦ ap (λ (o : Outlet Message). sent o) (turned.kept e)
      | inr e ↦ source-turn a b t counted (h.stands (has-gone a b turned e)) turned.moves
          (turned.turned e)
    ]

-- ---- the plan at work stays wired

module _ (old new : ℕ → Node) (limit : ℕ) (counted : (k : ℕ) → k < limit → IsCounted (old k))
    (keeps : (k : ℕ) → k < limit → NodeKeeps (old k) (new k)) where
  child-kept : (j port child : ℕ) (task : Task) → j < limit → task_in (old j).operator ≡ Some task
      → port < task.ports → ChildAt (old j) port child → ChildAt (new j) port child
  child-kept j port child task h t in-range c = λ e. (keeps j h).child port e
      (omega (arith, in-range, (counted j h).count, ap ports_of t)) ∙ c e

  pub wired-kept : (s : Shape) (i : ℕ) → i + node_count s ≤ limit → IsProper s → IsWired old s i
      → IsWired new s i
  wired-kept (Leaf source kinds) i h p w = (keeps i (omega (arith, h))).task ∙ w
  wired-kept (One task a) i h p w =
      let j : ℕ = i + node_count a in
      let there : j < limit = omega (arith, h) in (
        wired-kept a i (omega (arith, h)) p.3 w.0,
        (keeps j there).task
            ∙ w.1,
        child-kept j 0 (root_of a i) task there w.1 (omega (arith, p.1)) w.2,
      )
  wired-kept (Two task a b) i h p w =
      let j : ℕ = i + (node_count a + node_count b) in
      let there : j < limit = omega (arith, h) in (
        wired-kept a i (omega (arith, h)) p.4 w.0,
        wired-kept b (i + node_count a) (omega (arith, h)) p.5 w.1,
        (keeps j there).task ∙ w.2,
        child-kept j 0 (root_of a i) task there w.2 (omega (arith, p.1)) w.3,
        child-kept j 1 (root_of b (i + node_count a)) task there w.2 (omega (arith, p.1)) w.4,
      )

  spot-kept : (k number depth : ℕ) → k < limit → IsSpot (old k) number depth
      → IsSpot (new k) number depth
  spot-kept k number depth h s = record {
    number_is = (keeps k h).number ∙ s.number_is;
    depth_is = (keeps k h).depth ∙ s.depth_is;
  }

  pub numbered-kept : (s : Shape) (i number depth : ℕ) → i + node_count s ≤ limit
      → IsNumbered old s i number depth → IsNumbered new s i number depth
  numbered-kept (Leaf source kinds) i number depth h w =
      spot-kept i number depth (omega (arith, h)) w
  numbered-kept (One task a) i number depth h w = (
    numbered-kept a i (number + 1) (depth + 1) (omega (arith, h)) w.0,
    spot-kept (i + node_count a) number depth (omega (arith, h)) w.1,
  )
  numbered-kept (Two task a b) i number depth h w = (
    numbered-kept a i (number + 1) (depth + 1) (omega (arith, h)) w.0,
    numbered-kept b (i + node_count a) (number + 1 + node_count a) (depth + 1) (omega (arith, h))
        w.1,
    spot-kept (i + (node_count a + node_count b)) number depth (omega (arith, h)) w.2,
  )

  -- nothing was given where the sources put nothing
  pub gave-kept : (given : Lists) (s : Shape) (i n : ℕ) → i + node_count s ≤ limit
      → ((k : ℕ) → k < limit → task_in (old k).operator ≡ None
      → sent (new k).outlet ≡ sent (old k).outlet) → IsWired old s i → LeavesGave old s i n given
      → LeavesGave new s i n given
  gave-kept given (Leaf source kinds) i n h same w g = g ∙ sym (same i (omega (arith, h)) w)
  gave-kept given (One task a) i n h same w g = gave-kept given a i n (omega (arith, h)) same w.0 g
  gave-kept given (Two task a b) i n h same w g = (
    gave-kept given a i n (omega (arith, h)) same w.0 g.0,
    gave-kept given b (i + node_count a)
        (n + leaf_count a) (omega (arith, h)) same w.1 g.1,
  )

-- ---- the links hold after a turn

turned-link : (a b : Outlet Message) (p q : Port) → SameOutlet a b
    → ((more : List Message) × (sent b ≡ sent a ++ more)) → PortMoves p q → LinkHolds a p
    → LinkHolds b q
turned-link a b p q same puts moves l = record {
  ends = ends_keep a b p.inlet q.inlet same moves.same_link l.ends;
  rest = l.rest ++ puts.0;
  in_order = puts.1 ∙ ap (λ (xs : List Message). xs ++ puts.0) l.in_order
      ∙ append_assoc (taken p.inlet ++ known p.inlet) l.rest puts.0
      ∙ ap (λ (xs : List Message). xs ++ (l.rest ++ puts.0)) (sym moves.in_order);
}

pub linked-moved : (old new : List Node) → length new ≡ length old
    → ((k : ℕ) (d : Node) → k < length old → IsCounted (get_or new k d)
    × NodeMoves (get_or old k d) (get_or new k d)) → IsLinked old → IsLinked new
linked-moved old new count turned linked = record {
  counted = λ k d h. (turned k d (omega (arith, h, count))).0;
  earlier = λ k d i e h l.
      let small : k < length old = omega (arith, h, count) in
      let moves = (turned k d small).1 in
      let there : i < length (get_or old k d).ports.items = omega (arith, l, moves.count) in
      subst (λ (c : ℕ). c < k) (sym (moves.ports i e there).child)
      (linked.earlier k d i e small there);
  deeper = deeper-kept old new count (λ k d h. (turned k d h).1.depth)
      (λ k d h. (turned k d h).1.count)
      (λ k d i e h l. ((turned k d h).1.ports i e l).child) linked;
  links = λ k d i e h l.
      let small : k < length old = omega (arith, h, count) in
      let moves = (turned k d small).1 in
      let there : i < length (get_or old k d).ports.items = omega (arith, l, moves.count) in
      let c : ℕ = (get_or (get_or old k d).ports.items i e).child in
      let below = (turned c d (omega (arith, linked.earlier k d i e small there, small))).1 in
      subst (λ (z : ℕ). LinkHolds (get_or new z d).outlet (get_or (get_or new k d).ports.items i e))
      (sym (moves.ports i e there).child)
      (turned-link (get_or old c d).outlet (get_or new c d).outlet
      (get_or (get_or old k d).ports.items i e) (get_or (get_or new k d).ports.items i e)
      below.same_link below.puts (moves.ports i e there) (linked.links k d i e small there));
}

-- ---- boxes

-- the same box with other nodes
pub record Renews (old new : PlanBox) : Type 0 where
  pub count : length new.nodes.items ≡ length old.nodes.items
  pub linked : IsLinked new.nodes.items
  pub top : new.top ≡ old.top
  pub leaves : new.leaves.items ≡ old.leaves.items
  pub ended : new.ended ≡ old.ended
  pub going : new.failed ≡ false → (k : ℕ) (d : Node) → k < length old.nodes.items
      → (get_or new.nodes.items k d).failed ≡ false
  pub depths : (k : ℕ) (d : Node) → k < length old.nodes.items
      → (get_or new.nodes.items k d).depth ≡ (get_or old.nodes.items k d).depth
  pub outlets : (k : ℕ) (d : Node) → k < length old.nodes.items
      → SameOutlet (get_or old.nodes.items k d).outlet (get_or new.nodes.items k d).outlet
  pub puts : (k : ℕ) (d : Node) → k < length old.nodes.items → (more : List Message)
      × (sent (get_or new.nodes.items k d).outlet ≡ sent (get_or old.nodes.items k d).outlet
      ++ more)

pub renews-sound : (old new : PlanBox) → Renews old new → IsSound old → IsSound new
renews-sound old new r s = record {
  linked = r.linked;
  root = s.root;
  root_is = s.root_is ∙ sym r.count;
  top = λ d.
      let there : s.root < length old.nodes.items = omega (arith, s.root_is) in
      let t = s.top d in
      let puts = r.puts s.root d there in
      subst (EndsHold (get_or new.nodes.items s.root d).outlet) (sym r.top) (record {
        ends = ends_keep (get_or old.nodes.items s.root d).outlet
            (get_or new.nodes.items s.root d).outlet old.top old.top (r.outlets s.root d there)
            (same_inlet_self old.top) t.ends;
        rest = t.rest ++ puts.0;
        in_order = puts.1 ∙ ap (λ (xs : List Message). xs ++ puts.0) t.in_order
            ∙ append_assoc (taken old.top ++ known old.top) t.rest puts.0;
      });
  leaves = λ k d h. subst (λ ls. k < length ls → (get_or ls k d).node < length new.nodes.items)
      (sym r.leaves) (λ l. omega (arith, s.leaves k d l, r.count)) h;
  shallow = λ k d h.
      let small : k < length old.nodes.items = omega (arith, h, r.count) in
      omega (arith, s.shallow k d small, r.depths k d small);
  ended_is = r.ended ∙ s.ended_is
      ∙ ap (λ (i : Inlet Message). (run start_of_list (taken i)).ended) (sym r.top);
  going = λ e k d h. r.going e k d (omega (arith, h, r.count));
}

pub renews-stands : (old new : PlanBox) → Renews old new → IsLinked old.nodes.items
    → ((k : ℕ) (d : Node) → k < length old.nodes.items → NodeKeeps (get_or old.nodes.items k d)
    (get_or new.nodes.items k d))
    → ((k : ℕ) (d : Node) → k < length old.nodes.items → NodeHolds (get_or old.nodes.items k d)
    → NodeHolds (get_or new.nodes.items k d))
    → ((k : ℕ) (d : Node) → k < length old.nodes.items → NodeHolds (get_or old.nodes.items k d)
    → task_in (get_or old.nodes.items k d).operator ≡ None
    → sent (get_or new.nodes.items k d).outlet ≡ sent (get_or old.nodes.items k d).outlet)
    → (schemas : List (List Kind)) (plan : Plan) (given : Lists) (got : List Message)
    → BoxStands old schemas plan given got → BoxStands new schemas plan given got
renews-stands old new r linked keeps holds sources schemas plan given got b =
    let size : 0 + node_count (shape_of schemas plan) ≤ length old.nodes.items =
    omega (arith, b.count) in
    record {
      count = r.count ∙ b.count;
      few = b.few;
      wired = λ d.
          wired-kept (λ k. get_or old.nodes.items k d) (λ k. get_or new.nodes.items k d)
          (length old.nodes.items) (λ k h. linked.counted k d h) (λ k h. keeps k d h)
          (shape_of schemas plan) 0 size b.proper (b.wired d);
      numbered = λ d.
          numbered-kept (λ k. get_or old.nodes.items k d) (λ k. get_or new.nodes.items k d)
          (length old.nodes.items) (λ k h. linked.counted k d h) (λ k h. keeps k d h)
          (shape_of schemas plan) 0 0 0 size (b.numbered d);
      proper = b.proper;
      holds = λ k d h. let small : k < length old.nodes.items =
          omega (arith, h, r.count) in holds k d small (b.holds k d small);
      leaves_are = r.leaves ∙ b.leaves_are;
      gave = λ d.
          gave-kept (λ k. get_or old.nodes.items k d) (λ k. get_or new.nodes.items k d)
          (length old.nodes.items) (λ k h. linked.counted k d h) (λ k h. keeps k d h) given
          (shape_of schemas plan) 0 0 size
          (λ k h t. sources k d h (b.holds k d h) t) (b.wired d) (b.gave d);
      fits = b.fits;
      got_is = b.got_is ∙ sym (ap (λ (i : Inlet Message). taken i) r.top);
    }

-- the links were settled
pub settled-renews : (old new : PlanBox) → SettlesPorts old.nodes.items new.nodes.items
    (length old.nodes.items) 0 → new.top ≡ old.top → new.leaves ≡ old.leaves
    → new.ended ≡ old.ended → new.failed ≡ old.failed → IsSound old → Renews old new
settled-renews old new s top leaves ended failed sound = record {
  count = s.count;
  linked = s.linked;
  top = top;
  leaves = ap (λ v. v.items) leaves;
  ended = ended;
  going = λ e k d h. (s.looks k d h).failed ∙ sound.going (sym failed ∙ e) k d h;
  depths = λ k d h. (s.looks k d h).depth;
  outlets = λ k d h. (s.looks k d h).same_link;
  puts = λ k d h. (
    [],
    (s.looks k d h).sent
        ∙ sym (append-nil (sent (get_or old.nodes.items k d).outlet)),
  );
}

pub settled-stands : (old new : PlanBox) → IsSound old → SettlesPorts old.nodes.items
    new.nodes.items
    (length old.nodes.items) 0 → new.top ≡ old.top → new.leaves ≡ old.leaves
    → new.ended ≡ old.ended → new.failed ≡ old.failed
    → (schemas : List (List Kind)) (plan : Plan) (given : Lists) (got : List Message)
    → BoxStands old schemas plan given got → BoxStands new schemas plan given got
settled-stands old new sound s top leaves ended failed schemas plan given got b =
    renews-stands old new (settled-renews old new s top leaves ended failed sound) sound.linked
    (λ k d h. looks-keeps (get_or old.nodes.items k d) (get_or new.nodes.items k d)
    (s.looks k d h))
    (λ k d h. looks-holds (get_or old.nodes.items k d) (get_or new.nodes.items k d)
    (s.looks k d h)) (λ k d h n t. (s.looks k d h).sent) schemas plan given got b

-- the nodes were turned
pub turned-renews : (old new : PlanBox) → IsSound old → length new.nodes.items ≡ length
    old.nodes.items → ((k : ℕ) (d : Node) → k < length old.nodes.items
    → NodeTurned (get_or old.nodes.items k d) (get_or new.nodes.items k d))
    → new.top ≡ old.top → new.leaves ≡ old.leaves → new.ended ≡ old.ended
    → (new.failed ≡ false → (k : ℕ) (d : Node) → k < length new.nodes.items
    → (get_or new.nodes.items k d).failed ≡ false) → Renews old new
turned-renews old new sound count turned top leaves ended going = record {
  count = count;
  linked = linked-moved old.nodes.items new.nodes.items count
      (λ k d h. ((turned k d h).counted, (turned k d h).moves)) sound.linked;
  top = top;
  leaves = ap (λ v. v.items) leaves;
  ended = ended;
  going = λ e k d h. going e k d (omega (arith, h, count));
  depths = λ k d h. (turned k d h).moves.depth;
  outlets = λ k d h. (turned k d h).moves.same_link;
  puts = λ k d h. (turned k d h).moves.puts;
}

pub turned-stands : (old new : PlanBox) → IsSound old → length new.nodes.items ≡ length
    old.nodes.items → ((k : ℕ) (d : Node) → k < length old.nodes.items
    → NodeTurned (get_or old.nodes.items k d) (get_or new.nodes.items k d))
    → new.top ≡ old.top → new.leaves ≡ old.leaves → new.ended ≡ old.ended
    → (new.failed ≡ false → (k : ℕ) (d : Node) → k < length new.nodes.items
    → (get_or new.nodes.items k d).failed ≡ false)
    → (schemas : List (List Kind)) (plan : Plan) (given : Lists) (got : List Message)
    → BoxStands old schemas plan given got → BoxStands new schemas plan given got
turned-stands old new sound count turned top leaves ended going schemas plan given got b =
    renews-stands old new (turned-renews old new sound count turned top leaves ended going)
    sound.linked
    (λ k d h. moves-keeps (get_or old.nodes.items k d) (get_or new.nodes.items k d)
    (turned k d h).moves)
    (λ k d h. (turned k d h).holds)
    (λ k d h n t. turned-source (get_or old.nodes.items k d) (get_or new.nodes.items k d) t
    (sound.linked.counted k d h) n (turned k d h)) schemas plan given got b

-- the node at one place is looked at
set-looks : (ns : List Node) (i : ℕ) (a : Node) → i < length ns
    → ((d : Node) → NodeLooks (get_or ns i d) a) → (k : ℕ) (d : Node) → k < length ns
    → NodeLooks (get_or ns k d) (get_or (set ns i a) k d)
set-looks ns i a there looks k d h =
    elim (place k i) [
      | inl e ↦ subst (λ (z : ℕ). NodeLooks (get_or ns z d) (get_or (set ns i a) z d)) (sym e)
          (subst (NodeLooks (get_or ns i d)) (sym (get_or-set_same ns i a d there)) (looks d))
      | inr n ↦ subst (NodeLooks (get_or ns k d)) (sym (get_or-set_other ns i k a d n))
          (node_looks-self (get_or ns k d))
    ]

looks-linked : (old new : List Node) → length new ≡ length old
    → ((k : ℕ) (d : Node) → k < length old → NodeLooks (get_or old k d) (get_or new k d))
    → ((k : ℕ) (d : Node) (i : ℕ) (e : Port) → k < length old
    → get_or (get_or new k d).ports.items i e ≡ get_or (get_or old k d).ports.items i e)
    → IsLinked old → IsLinked new
looks-linked old new count looks same linked = record {
  counted = λ k d h.
      let small : k < length old = omega (arith, h, count) in
      let l = looks k d small in
      let c = linked.counted k d small in
      record {
        count = ap (λ o. ports_of (task_in o)) l.operator ∙ c.count ∙ sym l.count;
        few =
            omega (arith, c.few, l.count);
      };
  earlier = λ k d i e h l.
      let small : k < length old = omega (arith, h, count) in
      subst (λ (p : Port). p.child < k) (sym (same k d i e small))
      (linked.earlier k d i e small (omega (arith, l, (looks k d small).count)));
  deeper = deeper-kept old new count (λ k d h. (looks k d h).depth) (λ k d h. (looks k d h).count)
      (λ k d i e h l. ((looks k d h).ports i e l).child) linked;
  links = λ k d i e h l.
      let small : k < length old = omega (arith, h, count) in
      let there : i < length (get_or old k d).ports.items = omega
      (arith, l, (looks k d small).count) in
      let p : Port = get_or (get_or old k d).ports.items i e in
      let below = looks p.child d (omega (arith, linked.earlier k d i e small there, small)) in
      let link = linked.links k d i e small there in
      subst (λ (q : Port). LinkHolds (get_or new q.child d).outlet q) (sym (same k d i e small))
      (record {
        ends = ends_keep (get_or old p.child d).outlet (get_or new p.child d).outlet p.inlet
            p.inlet below.same_link (same_inlet_self p.inlet) link.ends;
        rest = link.rest;
        in_order =
            below.sent ∙ link.in_order;
      });
}

-- the top link was settled
pub record TopSettled (old new : PlanBox) (out : Outlet Message) : Type 0 where
  pub root : ℕ
  pub root_is : root + 1 ≡ length old.nodes.items
  pub nodes : (d : Node) → new.nodes.items ≡ set old.nodes.items root
      (with_outlet (get_or old.nodes.items root d) out)
  pub same_outlet : (d : Node) → SameOutlet (get_or old.nodes.items root d).outlet out
  pub sent_same : (d : Node) → sent out ≡ sent (get_or old.nodes.items root d).outlet
  pub spare_more : (d : Node) → spare (get_or old.nodes.items root d).outlet ≤ spare out
  pub waits : taken new.top ++ known new.top ≡ sent out
  pub ends : AreEnds out new.top
  pub taken_same : taken new.top ≡ taken old.top
  pub leaves : new.leaves ≡ old.leaves
  pub ended : new.ended ≡ old.ended
  pub failed : new.failed ≡ old.failed

module _ (old new : PlanBox) (out : Outlet Message) (t : TopSettled old new out) (e0 : Node) where
  top-there : t.root < length old.nodes.items
  top-there = omega (arith, t.root_is)

  top-count : length new.nodes.items ≡ length old.nodes.items
  top-count = ap length (t.nodes e0) ∙ length-set old.nodes.items t.root
      (with_outlet (get_or old.nodes.items t.root e0) out)

  top-looks : (k : ℕ) (d : Node) → k < length old.nodes.items
      → NodeLooks (get_or old.nodes.items k d) (get_or new.nodes.items k d)
  top-looks k d h =
      subst (λ (ns : List Node). NodeLooks (get_or old.nodes.items k d) (get_or ns k d))
      (sym (t.nodes d))
      (set-looks old.nodes.items t.root (with_outlet (get_or old.nodes.items t.root d) out)
      top-there
      (λ e. subst (λ (n : Node). NodeLooks n (with_outlet (get_or old.nodes.items t.root d) out))
      (get-any old.nodes.items t.root d e top-there) (looks-outlet
      (get_or old.nodes.items t.root d) out (t.same_outlet d) (t.sent_same d) (t.spare_more d)))
      k d h)

  top-ports : (k : ℕ) (d : Node) (i : ℕ) (e : Port) → k < length old.nodes.items
      → get_or (get_or new.nodes.items k d).ports.items i e ≡ get_or
      (get_or old.nodes.items k d).ports.items i e
  top-ports k d i e h =
      let a : Node = with_outlet (get_or old.nodes.items t.root d) out in
      ap (λ (ns : List Node). get_or (get_or ns k d).ports.items i e) (t.nodes d)
      ∙ elim (place k t.root) [
        | inl x ↦
            subst (λ (z : ℕ). get_or (get_or (set old.nodes.items t.root a) z d).ports.items i
            e ≡ get_or (get_or old.nodes.items z d).ports.items i e) (sym x)
            (ap (λ (n : Node). get_or n.ports.items i e) (get_or-set_same old.nodes.items t.root a d
            top-there))
        | inr x ↦ ap (λ (n : Node). get_or n.ports.items i e)
            (get_or-set_other old.nodes.items t.root k a d x)
      ]

  pub top-sound : IsSound old → IsSound new
  top-sound s = record {
    linked = looks-linked old.nodes.items new.nodes.items top-count top-looks top-ports s.linked;
    root = t.root;
    root_is = t.root_is ∙ sym top-count;
    top = λ d.
        let is : out ≡ (get_or new.nodes.items t.root d).outlet =
        sym (ap (λ (ns : List Node). (get_or ns t.root d).outlet) (t.nodes d)
        ∙ ap (λ (n : Node). n.outlet) (get_or-set_same old.nodes.items t.root
        (with_outlet (get_or old.nodes.items t.root d) out) d top-there)) in
        subst (λ (o : Outlet Message). EndsHold o new.top) is
        (record {
          ends = t.ends;
          rest = [];
          in_order = sym t.waits
              ∙ sym (append-nil (taken new.top ++ known new.top));
        });
    leaves = λ k d h. subst (λ v. k < length v.items → (get_or v.items k d).node < length
        new.nodes.items) (sym t.leaves) (λ l. omega (arith, s.leaves k d l, top-count)) h;
    shallow = λ k d h.
        let small : k < length old.nodes.items = omega (arith, h, top-count) in
        omega (arith, s.shallow k d small, (top-looks k d small).depth);
    ended_is = t.ended ∙ s.ended_is
        ∙ ap (λ (xs : List Message). (run start_of_list xs).ended) (sym t.taken_same);
    going = λ e k d h.
        let small : k < length old.nodes.items = omega (arith, h, top-count) in
        (top-looks k d small).failed ∙ s.going (sym t.failed ∙ e) k d small;
  }

  pub top-stands : IsSound old → (schemas : List (List Kind)) (plan : Plan) (given : Lists)
      (got : List Message) → BoxStands old schemas plan given got
      → BoxStands new schemas plan given got
  top-stands s schemas plan given got b =
      let size : 0 + node_count (shape_of schemas plan) ≤ length old.nodes.items =
      omega (arith, b.count) in
      record {
        count = top-count ∙ b.count;
        few = b.few;
        wired = λ d.
            wired-kept (λ k. get_or old.nodes.items k d) (λ k. get_or new.nodes.items k d)
            (length old.nodes.items) (λ k h. s.linked.counted k d h)
            (λ k h. looks-keeps (get_or old.nodes.items k d) (get_or new.nodes.items k d)
            (top-looks k d h)) (shape_of schemas plan) 0 size b.proper (b.wired d);
        numbered = λ d.
            numbered-kept (λ k. get_or old.nodes.items k d) (λ k. get_or new.nodes.items k d)
            (length old.nodes.items) (λ k h. s.linked.counted k d h)
            (λ k h. looks-keeps (get_or old.nodes.items k d) (get_or new.nodes.items k d)
            (top-looks k d h)) (shape_of schemas plan) 0 0 0 size (b.numbered d);
        proper = b.proper;
        holds = λ k d h.
            let small : k < length old.nodes.items = omega (arith, h, top-count) in
            looks-holds (get_or old.nodes.items k d) (get_or new.nodes.items k d)
            (top-looks k d small) (b.holds k d small);
        leaves_are = ap (λ v. v.items) t.leaves ∙ b.leaves_are;
        gave = λ d.
            gave-kept (λ k. get_or old.nodes.items k d) (λ k. get_or new.nodes.items k d)
            (length old.nodes.items) (λ k h. s.linked.counted k d h)
            (λ k h. looks-keeps (get_or old.nodes.items k d) (get_or new.nodes.items k d)
            (top-looks k d h)) given (shape_of schemas plan) 0 0 size
            (λ k h x. (top-looks k d h).sent) (b.wired d) (b.gave d);
        fits = b.fits;
        got_is = b.got_is ∙ sym t.taken_same;
      }

  -- both ends of the top link know each place and each message of it
  pub top-looked : ready old.top ≤ ready new.top → room_of out ≤ spare out + ready new.top
      → TopLooks old new
  top-looked more all =
      let at : (k : ℕ) (d : Node) → k + 1 ≡ length old.nodes.items
      → out ≡ (get_or new.nodes.items k d).outlet =
      λ k d last.
      let same : t.root ≡ k = omega (arith, last, t.root_is) in
      subst (λ (z : ℕ). out ≡ (get_or new.nodes.items z d).outlet) same
      (sym (ap (λ (ns : List Node). (get_or ns t.root d).outlet) (t.nodes d)
      ∙ ap (λ (n : Node). n.outlet) (get_or-set_same old.nodes.items t.root
      (with_outlet (get_or old.nodes.items t.root d) out) d top-there))) in
      record {
        count = top-count;
        looks = top-looks;
        taken_same = t.taken_same;
        more_known = more;
        waits = λ k d last. t.waits ∙ ap (λ (o : Outlet Message). sent o) (at k d last);
        all_known = λ k d last. subst (λ (o : Outlet Message). room_of o ≤ spare o + ready new.top)
            (at k d last) all;
      }

-- a message was taken from the top
pub record TopTook (old new : PlanBox) (m : Message) : Type 0 where
  pub nodes : new.nodes ≡ old.nodes
  pub leaves : new.leaves ≡ old.leaves
  pub failed : new.failed ≡ old.failed
  pub same_link : SameInlet old.top new.top
  pub taken_more : taken new.top ≡ taken old.top ++ m ∷ []
  pub known_less : known old.top ≡ m ∷ known new.top
  pub ended : (p : Progress) → p.ended ≡ old.ended → new.ended ≡ (after p m).ended

pub took-sound : (old new : PlanBox) (m : Message) → TopTook old new m → IsSound old → IsSound new
took-sound old new m t s =
    let order : taken new.top ++ known new.top ≡ taken old.top ++ known old.top =
    ap (λ (xs : List Message). xs ++ known new.top) t.taken_more
    ∙ append_assoc (taken old.top) (m ∷ []) (known new.top)
    ∙ ap (λ (xs : List Message). taken old.top ++ xs) (sym t.known_less) in
    record {
      linked = subst (λ v. IsLinked v.items) (sym t.nodes) s.linked;
      root = s.root;
      root_is = s.root_is ∙ ap (λ v. length v.items) (sym t.nodes);
      top = λ d.
          let top = s.top d in
          subst (λ v. EndsHold (get_or v.items s.root d).outlet new.top) (sym t.nodes)
          (record {
            ends = ends_keep (get_or old.nodes.items s.root d).outlet
                (get_or old.nodes.items s.root d).outlet old.top new.top
                (same_outlet_self (get_or old.nodes.items s.root d).outlet) t.same_link top.ends;
            rest = top.rest;
            in_order = top.in_order ∙ ap (λ (xs : List Message). xs ++ top.rest) (sym order);
          });
      leaves = λ k d h. subst (λ v. (get_or new.leaves.items k d).node < length v.items)
          (sym t.nodes) (subst (λ v. k < length v.items → (get_or v.items k d).node < length
          old.nodes.items) (sym t.leaves) (λ l. s.leaves k d l) h);
      shallow = subst (λ v. (k : ℕ) (d : Node) → k < length v.items
          → (get_or v.items k d).depth ≤ 31)
          (sym t.nodes) s.shallow;
      ended_is = t.ended (run start_of_list (taken old.top)) (sym s.ended_is)
          ∙ sym (ap (λ (xs : List Message). (run start_of_list xs).ended) t.taken_more
          ∙ ap (λ (p : Progress). p.ended) (run-push start_of_list (taken old.top) m));
      going = subst (λ v. new.failed ≡ false → (k : ℕ) (d : Node) → k < length v.items
          → (get_or v.items k d).failed ≡ false) (sym t.nodes)
          (λ e. s.going (sym t.failed ∙ e));
    }

pub took-stands : (old new : PlanBox) (m : Message) → TopTook old new m
    → (schemas : List (List Kind)) (plan : Plan) (given : Lists) (got : List Message)
    → BoxStands old schemas plan given got → BoxStands new schemas plan given (got ++ m ∷ [])
took-stands old new m t schemas plan given got b = record {
  count = ap (λ v. length v.items) t.nodes ∙ b.count;
  few = b.few;
  wired = subst (λ v. (d : Node) → IsWired (λ k. get_or v.items k d) (shape_of schemas plan) 0)
      (sym t.nodes) b.wired;
  numbered = subst (λ v. (d : Node) → IsNumbered (λ k. get_or v.items k d) (shape_of schemas plan) 0
      0 0) (sym t.nodes) b.numbered;
  proper = b.proper;
  holds = subst (λ v. (k : ℕ) (d : Node) → k < length v.items → NodeHolds (get_or v.items k d))
      (sym t.nodes) b.holds;
  leaves_are = ap (λ v. v.items) t.leaves ∙ b.leaves_are;
  gave = subst (λ v. (d : Node) → LeavesGave (λ k. get_or v.items k d) (shape_of schemas plan) 0 0
      given) (sym t.nodes) b.gave;
  fits = b.fits;
  got_is = ap (λ (xs : List Message). xs ++ m ∷ []) b.got_is ∙ sym t.taken_more;
}
