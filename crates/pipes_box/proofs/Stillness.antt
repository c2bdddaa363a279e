-- What comes out at the top of a plan at work in which nothing is on its way.
use Rattle.std.proofs.Common.{◌≡◌, ℕ, zero, suc, ◌+◌, ◌-◌, ◌≤◌, ◌<◌, List, [], ◌∷◌, ◌++◌, length}
use Rattle.std.proofs.Common.{get_or}
use Rattle.std.proofs.Common.{Option, Some, None, inl, inr, refl, sym, ◌∙◌, ap, subst, arith}
use Rattle.std.proofs.Common.{append-nil}
use Rattle.std.specs.List.{sum_by}
use Rattle.std.proofs.lemmas.Bool.{cases_lt}
use Rattle.std.proofs.lemmas.List.Sums.{sum_by-cons}
use Rattle.pipes_tuple.specs.declared.value.Kind.{Kind}
use Rattle.pipes_stream.specs.declared.message.Message.{Message}
use Rattle.pipes_stream.specs.Lists.{start_of_list}
use Rattle.pipes_stream.specs.Lawful.{Lists, Task, Lawful}
use Rattle.pipes_link.specs.Ends.{sent, taken, spare}
use Rattle.pipes_plan.specs.declared.plan.Plan.{Plan}
use Rattle.pipes_node.specs.declared.operator.PlanOperator.{PlanOperator}
use Rattle.pipes_node.specs.declared.port.Port.{Port}
use Rattle.pipes_node.specs.declared.node.Node.{Node}
use Rattle.pipes_box.specs.declared.plan_box.PlanBox.{PlanBox}
use Rattle.pipes_node.specs.Operators.{task_of, held_by}
use Rattle.pipes_node.specs.Passing.{Passes}
use Rattle.pipes_node.specs.Nodes.{IsCounted, PortStands, EmitsIn, NodeStands, NodeStood, task_in}
use Rattle.pipes_node.specs.Nodes.{ports_of, kinds_at, held_in}
use Rattle.pipes_box.specs.Shapes.{Shape, Leaf, One, Two, shape_of, gives_of, node_count}
use Rattle.pipes_box.specs.Shapes.{leaf_count, GivenFits, Answers, IsProper}
use Rattle.pipes_box.specs.Prompt.{AllEnded, IsPrompt}
use Rattle.pipes_box.specs.declared.leaf.Leaf.{Leaf as PlanLeaf}
use Rattle.pipes_box.specs.Networks.{IsLinked, IsWired, LeavesGave, ChildAt, root_of, leaves_of}
use Rattle.pipes_box.specs.Boxes.{IsSound, BoxStands, IsQuiet, IsStill, HasPlace, all_held}
use Rattle.pipes_box.proofs.Built.{get-before}
use Rattle.pipes_box.proofs.Giving.{get-later, leaves-count}
use Rattle.pipes_node.proofs.Emitting.{emits-lawful}
use Rattle.pipes_node.proofs.Passed.{passes-all}
use Rattle.pipes_node.proofs.NodeSteps.{place, get-any}
use Rattle.pipes_box.proofs.Network.{network, some-port}
use Rattle.pipes_node.proofs.Stood.{stands-stood}
use Rattle.pipes_box.proofs.BoxLaw.{root-last, some-node}
use Rattle.pipes_box.proofs.Rounds.{no-task}
use Rattle.pipes_box.proofs.Prompting.{prompt-leaf, prompt-one, prompt-two, ended-one, ended-two}

-- a node with a task, with which nothing is pending: its operator owes what it put
put-lawful : (o : Option PlanOperator) (task : Task) (passed : Lists) (out pending : List Message)
    → pending ≡ [] → task_in o ≡ Some task
    → EmitsIn o passed out pending → Lawful task passed out (held_in o)
put-lawful None task passed out pending none t e = absurd (none-some task t) where
  none-some : (task : Task) → ◌≡◌ {A = Option Task} None (Some task) → ⊥
  none-some task h = cc
put-lawful (Some op) task passed out pending none t e =
    let same : task_of op ≡ task = some-same (task_of op) task t in
    let whole : out ++ pending ≡ out = ap (λ (xs : List Message). out ++ xs) none
    ∙ append-nil out in
    subst (λ (xs : List Message). Lawful task passed xs (held_by op)) whole
    (subst (λ (x : Task). Lawful x passed (out ++ pending) (held_by op)) same
    (emits-lawful op passed (out ++ pending) e)) where
      some-same : (x y : Task) → ◌≡◌ {A = Option Task} (Some x) (Some y) → x ≡ y
      some-same x y h = cc

-- so many numbers of nothing
sum-none : {X : Type 0} (f : X → ℕ) (xs : List X) → ((k : ℕ) (d : X) → k < length xs
    → f (get_or xs k d) ≡ 0) → sum_by f xs ≡ 0
sum-none f [] none = refl
sum-none f (x ∷ xs) none =
    omega (
      arith,
      sum_by-cons f x xs,
      none 0 x (omega arith),
      sum-none f xs (λ k d h. none (suc k) d (omega (arith, h))),
    )

-- all that a child put has passed at the port, and nothing is pending with it
pub record HasPassed (child : Node) (passed : List Message) : Type 0 where
  pub all : passed ≡ sent child.outlet
  pub nothing : child.pending.items ≡ []
  pub free : 0 < spare child.outlet

-- The list that the root of a part put has come as far as what was given, and after the end its
-- operators keep nothing. A place is free at each of its leaves.
pub record Caught (node : ℕ → Node) (s : Shape) (i n : ℕ) (given : Lists) : Type 0 where
  pub prompt : IsPrompt s n given (sent (node (root_of s i)).outlet)
  pub keeps_none : AllEnded s n given → (k : ℕ) → i ≤ k → k < i + node_count s
      → held_in (node k).operator ≡ 0
  pub places : (j : ℕ) (e : PlanLeaf) → j < leaf_count s
      → 0 < spare (node (get_or (leaves_of s i) j e).node).outlet

module _ (nodes : List Node) (d : Node) (linked : IsLinked nodes) (stands : (k : ℕ)
    → k < length nodes → NodeStands (get_or nodes k d))
    (still : (k i : ℕ) (e : Port) → k < length nodes → i < length (get_or nodes k d).ports.items
    → IsQuiet (get_or nodes (get_or (get_or nodes k d).ports.items i e).child d)
    (get_or (get_or nodes k d).ports.items i e).inlet) where
  abbrev node : ℕ → Node
  node k = get_or nodes k d

  stood : (k : ℕ) → k < length nodes → NodeStood (node k)
  stood k h = stands-stood (node k) (stands k h)

  at-port : (a : Shape) (n : ℕ) (given : Lists) (j port child : ℕ) (task : Task)
      (small : j < length nodes) → task_in (node j).operator ≡ Some task → port < task.ports
      → task.takes port ≡ gives_of a → ChildAt (node j) port child
      → Answers a n given (sent (node child).outlet) → HasPassed (node child)
      ((stands j small).passed port)
  at-port a n given j port child task small is-task in-range kinds child-is answers =
      let count : task.ports ≡ length (node j).ports.items = sym (ap ports_of is-task)
      ∙ (linked.counted j d small).count in
      let there : port < length (node j).ports.items = omega (arith, in-range, count) in
      let e : Port = some-port (node j).ports.items (omega (arith, there)) in
      let p : Port = get_or (node j).ports.items port e in
      let quiet : IsQuiet (node child) p.inlet = subst (λ (k : ℕ). IsQuiet (node k) p.inlet)
      (child-is e) (still j port e small there) in
      let same : p.schema ≡ gives_of a = sym ((stands j small).kinds port e there)
      ∙ ap (λ (o : Option Task). kinds_at o port) is-task ∙ kinds in
      let got : Answers a n given (taken p.inlet) = subst (Answers a n given) (sym quiet.all_taken)
      answers in
      record {
        all = passes-all (gives_of a) start_of_list (taken p.inlet) ((stands j small).passed port)
            got.valid got.fits
            (subst (λ (ks : List Kind). Passes ks start_of_list (taken p.inlet)
            ((stands j small).passed port)) same ((stands j small).ports port e there).passes)
            ∙ quiet.all_taken;
        nothing = quiet.nothing_pending;
        free = quiet.has_place;
      }

  pub caught : (s : Shape) (i n : ℕ) (given : Lists) → i + node_count s ≤ length nodes → IsProper s
      → IsWired node s i → LeavesGave node s i n given → GivenFits s n given
      → (node (root_of s i)).pending.items ≡ [] → 0 < spare (node (root_of s i)).outlet
      → Caught node s i n given
  caught (Leaf source kinds) i n given small proper wired gave fits none free = record {
    prompt = subst (IsPrompt (Leaf source kinds) n given) gave (prompt-leaf source kinds n given);
    keeps_none = λ e k low high.
        let at : i ≡ k = omega (arith, low, high) in
        subst (λ (z : ℕ). held_in (node z).operator ≡ 0) at
        (ap held_in (no-task (node i).operator wired));
    places = λ j e h. at-leaf j e h free;
  } where
    at-leaf : (j : ℕ) (e : PlanLeaf) → j < 1 → 0 < spare (node i).outlet
        → 0 < spare (node (get_or (leaves_of (Leaf source kinds) i) j e).node).outlet
    at-leaf zero e h free = free
    at-leaf (suc j) e h free = absurd (omega (arith, h))
  caught (One task a) i n given small proper wired gave fits none free =
      let j : ℕ = i + node_count a in
      let there : j < length nodes = omega (arith, small) in
      let answers = network nodes d linked stood a i n given (omega (arith, small)) proper.3
      wired.0 gave fits in
      let s = stands j there in
      let p = at-port a n given j 0 (root_of a i) task there wired.1 (omega (arith, proper.1))
      proper.2 wired.2 answers in
      let c = caught a i n given (omega (arith, small)) proper.3 wired.0 gave fits p.nothing
      p.free in
      let l = put-lawful (node j).operator task s.passed (sent (node j).outlet)
      (node j).pending.items none wired.1 s.emits in
      let prompt : IsPrompt a n given (s.passed 0) = subst (IsPrompt a n given)
      (sym p.all) c.prompt in
      record {
        prompt = prompt-one task a n (held_in (node j).operator) given s.passed
            (sent (node j).outlet) proper.1 (subst (Answers a n given) (sym p.all) answers) prompt
            l;
        keeps_none = λ e k low high.
            elim (place k j) [
              | inl x ↦ subst (λ (z : ℕ). held_in (node z).operator ≡ 0) (sym x)
                  (l.ends (ended-one task.ports s.passed proper.1 (prompt.ends e))).1
              | inr x ↦ c.keeps_none e k low (omega (arith, high, x))
            ];
        places = c.places;
      }
  caught (Two task a b) i n given small proper wired gave fits none free =
      let j : ℕ = i + (node_count a + node_count b) in
      let there : j < length nodes = omega (arith, small) in
      let m : ℕ = n + leaf_count a in
      let left = network nodes d linked stood a i n given (omega (arith, small)) proper.4 wired.0
      gave.0 fits.0 in
      let right = network nodes d linked stood b (i + node_count a) m given (omega (arith, small))
      proper.5 wired.1 gave.1 fits.1 in
      let s = stands j there in
      let p = at-port a n given j 0 (root_of a i) task there wired.2 (omega (arith, proper.1))
      proper.2 wired.3 left in
      let q = at-port b m given j 1 (root_of b (i + node_count a)) task there wired.2
      (omega (arith, proper.1)) proper.3 wired.4 right in
      let c = caught a i n given (omega (arith, small)) proper.4 wired.0 gave.0 fits.0 p.nothing
      p.free in
      let c' = caught b (i + node_count a) m given (omega (arith, small)) proper.5 wired.1 gave.1
      fits.1 q.nothing q.free in
      let l = put-lawful (node j).operator task s.passed (sent (node j).outlet)
      (node j).pending.items none wired.2 s.emits in
      let prompt : IsPrompt a n given (s.passed 0) = subst (IsPrompt a n given)
      (sym p.all) c.prompt in
      let prompt' : IsPrompt b m given (s.passed 1) = subst (IsPrompt b m given)
      (sym q.all) c'.prompt in
      record {
        prompt = prompt-two task a b n (held_in (node j).operator) given s.passed
            (sent (node j).outlet) proper.1
            (subst (Answers a n given) (sym p.all) left) (subst (Answers b m given)
            (sym q.all) right) prompt prompt' l;
        keeps_none = λ e k low high.
            elim (place k j) [
              | inl x ↦ subst (λ (z : ℕ). held_in (node z).operator ≡ 0) (sym x)
                  (l.ends (ended-two task.ports s.passed proper.1 (prompt.ends e.0)
                  (prompt'.ends e.1))).1
              | inr x ↦ elim (cases_lt k (i + node_count a)) [
                | inl y ↦ c.keeps_none e.0 k low y
                | inr y ↦ c'.keeps_none e.1 k y (omega (arith, high, x))
              ]
            ];
        places = λ k e h.
            elim (cases_lt k (leaf_count a)) [
              | inl l ↦ subst (λ (x : PlanLeaf). 0 < spare (node x.node).outlet)
                  (sym (get-before (leaves_of a i) (leaves_of b (i + node_count a)) k e
                  (omega (arith, l, leaves-count a i)))) (c.places k e l)
              | inr l ↦
                  subst (λ (x : PlanLeaf). 0 < spare (node x.node).outlet)
                  (sym (get-later (leaves_of a i) (leaves_of b (i + node_count a)) k e
                  (omega (arith, l, leaves-count a i))))
                  (c'.places (k - length (leaves_of a i)) e
                  (omega (arith, l, h, leaves-count a i)))
            ];
      }

module _ (b : PlanBox) (schemas : List (List Kind)) (plan : Plan) (given : Lists)
    (got : List Message) (sound : IsSound b) (still : IsStill b)
    (s : BoxStands b schemas plan given got) where
  abbrev shape : Shape
  shape = shape_of schemas plan

  abbrev first : Node
  first = some-node b.nodes.items (omega (arith, sound.root_is))

  last : root_of shape 0 + 1 ≡ length b.nodes.items
  last = omega (arith, s.count, root-last shape 0)

  whole : Caught (λ k. get_or b.nodes.items k first) shape 0 0 given
  whole = caught b.nodes.items first sound.linked
      (λ k h. (s.holds k first h).stands (sound.going still.going k first h))
      (λ k i e h l. still.links k first i e h l) shape 0 0 given (omega (arith, s.count)) s.proper
      (s.wired first) (s.gave first) s.fits
      (still.top (root_of shape 0) first last).nothing_pending
      (still.top (root_of shape 0) first last).has_place

  -- a box in which nothing is on its way has answered as far as it can
  pub still-prompt : IsPrompt shape 0 given got
  still-prompt = subst (IsPrompt shape 0 given)
      (sym (s.got_is ∙ (still.top (root_of shape 0) first last).all_taken)) whole.prompt

  -- and after the end of each leaf it keeps nothing
  pub still-holds_none : AllEnded shape 0 given → all_held b ≡ 0
  still-holds_none e =
      sum-none (λ (n : Node). held_in n.operator) b.nodes.items
      (λ k d h. subst (λ (n : Node). held_in n.operator ≡ 0) (get-any b.nodes.items k first d h)
      (whole.keeps_none e k (omega arith) (omega (arith, h, s.count))))

  -- and a place is free at each leaf
  pub still-places : (leaf : ℕ) → leaf < length b.leaves.items → HasPlace b leaf
  still-places leaf h d e =
      let small : leaf < leaf_count shape =
      omega (arith, h, ap length s.leaves_are, leaves-count shape 0) in
      let spot : (get_or b.leaves.items leaf d).node ≡ (get_or (leaves_of shape 0) leaf d).node =
      ap (λ (ls : List PlanLeaf). (get_or ls leaf d).node) s.leaves_are in
      let there : (get_or b.leaves.items leaf d).node < length b.nodes.items =
      sound.leaves leaf d h in
      subst (λ (n : Node). 0 < spare n.outlet)
      (get-any b.nodes.items (get_or b.leaves.items leaf d).node first e there)
      (subst (λ (k : ℕ). 0 < spare (get_or b.nodes.items k first).outlet) (sym spot)
      (whole.places leaf d small))
