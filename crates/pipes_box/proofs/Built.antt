-- Nodes that are added to those of the parts below them.
use Rattle.std.proofs.Common.{◌≡◌, ℕ, zero, suc, ◌+◌, ◌≤◌, ◌<◌, List, [], ◌∷◌, ◌++◌, length, get_or}
use Rattle.std.proofs.Common.{Option, Some, None, refl, sym, ◌∙◌, ap, subst, arith, append_assoc}
use Rattle.std.proofs.Common.{append-nil, length-append, inl, inr, false}
use Rattle.std.proofs.lemmas.Bool.{cases_lt}
use Rattle.pipes_tuple.specs.declared.value.Kind.{Kind}
use Rattle.pipes_stream.specs.declared.message.Message.{Message}
use Rattle.pipes_stream.specs.Progress.{Progress}
use Rattle.pipes_stream.specs.Lists.{start_of_list}
use Rattle.pipes_stream.specs.Lawful.{Lists, Task, no_messages}
use Rattle.pipes_link.specs.declared.outlet.Outlet.{Outlet}
use Rattle.pipes_link.specs.declared.inlet.Inlet.{Inlet}
use Rattle.pipes_link.specs.Ends.{sent, taken, known, AreEnds}
use Rattle.pipes_node.specs.declared.operator.PlanOperator.{PlanOperator}
use Rattle.pipes_node.specs.declared.port.Port.{Port}
use Rattle.pipes_node.specs.declared.node.Node.{Node}
use Rattle.pipes_box.specs.declared.build.Part.{Part}
use Rattle.pipes_node.specs.Operators.{task_of, StandsFor}
use Rattle.pipes_node.specs.Passing.{Passes}
use Rattle.pipes_node.specs.Nodes.{IsCounted, PortStands, Emits, EmitsIn, NodeStands, task_in}
use Rattle.pipes_node.specs.Nodes.{ports_of, kinds_at}
use Rattle.pipes_box.specs.Shapes.{Shape, Leaf, One, Two, gives_of, node_count, leaf_count}
use Rattle.pipes_box.specs.Shapes.{KeepsBags, IsProper}
use Rattle.pipes_box.specs.Networks.{LinkHolds, IsLinked, IsWired, IsSpot, IsNumbered}
use Rattle.pipes_box.specs.Networks.{ChildAt, root_of}
use Rattle.pipes_box.specs.Parts.{IsPortOf, Adds, AddsOver, AddsTask, PortsOver, IsNew, PartHolds}
use Rattle.pipes_node.proofs.Saying.{says-self}
use Rattle.pipes_node.proofs.NodeSteps.{place}

module _ {X : Type 0} where
  pub get-before : (xs ys : List X) (k : ℕ) (d : X) → k < length xs
      → get_or (xs ++ ys) k d ≡ get_or xs k d
  get-before [] ys k d h = absurd (omega arith)
  get-before (x ∷ xs) ys zero d h = refl
  get-before (x ∷ xs) ys (suc k) d h = get-before xs ys k d (omega arith)

  pub get-last : (xs : List X) (y d : X) → get_or (xs ++ y ∷ []) (length xs) d ≡ y
  get-last [] y d = refl
  get-last (x ∷ xs) y d = get-last xs y d

  pub no-length : (xs : List X) → length xs ≡ 0 → xs ≡ []
  no-length [] h = refl
  no-length (x ∷ xs) h = absurd (omega (arith, h))

-- the root is one of the plan's nodes
pub root-in : (s : Shape) (i : ℕ) → root_of s i < i + node_count s
root-in (Leaf source kinds) i = omega arith
root-in (One task a) i = omega arith
root-in (Two task a b) i = omega arith

-- nodes that are the same at these places
pub wired-same : (node node' : ℕ → Node) (s : Shape) (i : ℕ)
    → ((k : ℕ) → i ≤ k → k < i + node_count s → node' k ≡ node k) → IsWired node s i
    → IsWired node' s i
wired-same node node' (Leaf source kinds) i same w = ap (λ (n : Node). task_in n.operator)
    (same i (omega arith) (omega arith)) ∙ w
wired-same node node' (One task a) i same w =
    let at-root = same (i + node_count a) (omega arith) (omega arith) in (
      wired-same node node' a i (λ k l h. same k l (omega (arith, h))) w.0,
      ap (λ (n : Node). task_in n.operator) at-root ∙ w.1,
      subst (λ (n : Node). ChildAt n 0 (root_of a i)) (sym at-root) w.2,
    )
wired-same node node' (Two task a b) i same w =
    let at-root = same (i + (node_count a + node_count b)) (omega arith) (omega arith) in (
      wired-same node node' a i (λ k l h. same k l (omega (arith, h))) w.0,
      wired-same node node' b (i + node_count a) (λ k l h. same k (omega (arith, l))
          (omega (arith, h))) w.1,
      ap (λ (n : Node). task_in n.operator) at-root ∙ w.2,
      subst (λ (n : Node). ChildAt n 0 (root_of a i)) (sym at-root) w.3,
      subst (λ (n : Node). ChildAt n 1 (root_of b (i + node_count a))) (sym at-root) w.4,
    )

pub numbered-same : (node node' : ℕ → Node) (s : Shape) (i number depth : ℕ)
    → ((k : ℕ) → i ≤ k → k < i + node_count s → node' k ≡ node k)
    → IsNumbered node s i number depth → IsNumbered node' s i number depth
numbered-same node node' (Leaf source kinds) i number depth same w =
    subst (λ (n : Node). IsSpot n number depth) (sym (same i (omega arith) (omega arith))) w
numbered-same node node' (One task a) i number depth same w = (
  numbered-same node node' a i (number + 1) (depth + 1) (λ k l h. same k l (omega (arith, h))) w.0,
  subst (λ (n : Node). IsSpot n number depth)
      (sym (same (i + node_count a) (omega arith) (omega arith))) w.1,
)
numbered-same node node' (Two task a b) i number depth same w = (
  numbered-same node node' a i (number + 1) (depth + 1) (λ k l h. same k l (omega (arith, h))) w.0,
  numbered-same node node' b (i + node_count a) (number + 1 + node_count a) (depth + 1)
      (λ k l h. same k (omega (arith, l)) (omega (arith, h))) w.1,
  subst (λ (n : Node). IsSpot n number depth)
      (sym (same (i + (node_count a + node_count b)) (omega arith) (omega arith))) w.2,
)

-- the root is at its depth
pub root-depth : (node : ℕ → Node) (s : Shape) (i number depth : ℕ)
    → IsNumbered node s i number depth → (node (root_of s i)).depth ≡ depth
root-depth node (Leaf source kinds) i number depth w = w.depth_is
root-depth node (One task a) i number depth w = w.1.depth_is
root-depth node (Two task a b) i number depth w = w.2.depth_is

-- a part stays as it is where nodes are added
pub holds-more : (nodes more : List Node) (start number depth : ℕ) (s : Shape) (part : Part)
    → PartHolds nodes start number depth s part
    → PartHolds (nodes ++ more) start number depth s part
holds-more nodes more start number depth s part h =
    let root-there : part.root < length nodes = omega (arith, h.root, h.there, root-in s start) in
    record {
      there = omega (arith, h.there, length-append nodes more);
      root = h.root;
      wired = λ d. wired-same (λ k. get_or nodes k d) (λ k. get_or (nodes ++ more) k d) s start
          (λ k l m. get-before nodes more k d (omega (arith, m, h.there))) (h.wired d);
      numbered = λ d. numbered-same (λ k. get_or nodes k d) (λ k. get_or (nodes ++ more) k d) s
          start number depth (λ k l m. get-before nodes more k d (omega (arith, m, h.there)))
          (h.numbered d);
      proper = h.proper;
      gives = h.gives;
      ends = λ d. subst (λ (n : Node). AreEnds n.outlet part.inlet)
          (sym (get-before nodes more part.root d root-there)) (h.ends d);
      nothing_taken = h.nothing_taken;
      nothing_known = h.nothing_known;
    }

-- a port that is ready to take from one of the nodes, which is at this depth
pub record PortReady (nodes : List Node) (kinds : List Kind) (depth : ℕ) (p : Port) : Type 0 where
  pub there : p.child < length nodes
  pub deep : (d : Node) → (get_or nodes p.child d).depth ≡ depth
  pub ends : (d : Node) → AreEnds (get_or nodes p.child d).outlet p.inlet
  pub nothing_taken : taken p.inlet ≡ []
  pub nothing_known : length (known p.inlet) ≡ 0
  pub watch : p.watch ≡ start_of_list
  pub schema : p.schema ≡ kinds

pub port-ready : (nodes : List Node) (start number depth : ℕ) (s : Shape) (part : Part) (p : Port)
    → PartHolds nodes start number depth s part → IsPortOf part p
    → PortReady nodes part.schema depth p
port-ready nodes start number depth s part p h is = record {
  there = omega (arith, h.root, h.there, root-in s start, is.child);
  deep = λ d. ap (λ (k : ℕ). (get_or nodes k d).depth) (is.child ∙ h.root)
      ∙ root-depth (λ k. get_or nodes k d) s start number depth (h.numbered d);
  ends = λ d. subst (λ (i : Inlet Message). AreEnds (get_or nodes p.child d).outlet i)
      (sym is.inlet) (subst (λ (k : ℕ). AreEnds (get_or nodes k d).outlet part.inlet) (sym is.child)
      (h.ends d));
  nothing_taken = ap (λ (i : Inlet Message). taken i) is.inlet ∙ h.nothing_taken;
  nothing_known = ap (λ (i : Inlet Message). length (known i)) is.inlet ∙ h.nothing_known;
  watch = is.watch;
  schema = is.schema;
}

-- a node that is ready over the nodes
pub record NodeReady (nodes : List Node) (n : Node) : Type 0 where
  pub counted : IsCounted n
  pub ports : (i : ℕ) (e : Port) → i < length n.ports.items → PortReady nodes
      (kinds_at (task_in n.operator) i) (n.depth + 1) (get_or n.ports.items i e)
  pub shallow : n.depth ≤ 31
  pub emits : EmitsIn n.operator no_messages [] []
  pub nothing_sent : sent n.outlet ≡ []
  pub nothing_pending : n.pending.items ≡ []
  pub going : n.failed ≡ false

ready-stands : (nodes : List Node) (n : Node) → NodeReady nodes n → NodeStands n
ready-stands nodes n r = record {
  passed = no_messages;
  ports = λ k d h.
      let p = r.ports k d h in
      record {
        passes = subst (λ (xs : List Message). Passes (get_or n.ports.items k d).schema
            start_of_list xs []) (sym p.nothing_taken) refl;
        watch = p.watch;
      };
  kinds = λ k d h. sym (r.ports k d h).schema;
  emits = subst (λ (xs : List Message). EmitsIn n.operator no_messages xs n.pending.items)
      (sym r.nothing_sent) (subst (EmitsIn n.operator no_messages []) (sym r.nothing_pending)
      r.emits);
}

-- by the place: the node that was added, or one before it
at-push : (nodes : List Node) (n d : Node) (P : ℕ → Node → Type 0)
    → ((k : ℕ) → k < length nodes → P k (get_or nodes k d)) → P (length nodes) n → (k : ℕ)
    → k < length (nodes ++ n ∷ []) → P k (get_or (nodes ++ n ∷ []) k d)
at-push nodes n d P old last k h =
    elim (cases_lt k (length nodes)) [
      | inl l ↦ subst (P k) (sym (get-before nodes (n ∷ []) k d l)) (old k l)
      | inr l ↦
          let e : length nodes ≡ k = omega (arith, l, h, length-append nodes (n ∷ [])) in
          subst (λ (z : ℕ). P z (get_or (nodes ++ n ∷ []) z d)) e
          (subst (P (length nodes)) (sym (get-last nodes n d)) last)
    ]

pub new-push : (nodes : List Node) (n : Node) → NodeReady nodes n → IsNew nodes
    → IsNew (nodes ++ n ∷ [])
new-push nodes n r s =
    let all : List Node = nodes ++ n ∷ [] in
    record {
      linked = record {
        counted = λ k d h. at-push nodes n d (λ j x. IsCounted x) (λ j l. s.linked.counted j d l)
            r.counted k h;
        earlier = λ k d i e h l.
            at-push nodes n d (λ j x. i < length x.ports.items
            → (get_or x.ports.items i e).child < j) (λ j m. s.linked.earlier j d i e m)
            (λ m. (r.ports i e m).there) k h l;
        deeper = λ k d i e h l.
            at-push nodes n d (λ j x. i < length x.ports.items
            → (get_or all (get_or x.ports.items i e).child d).depth ≡ x.depth + 1)
            (λ j m q. ap (λ (y : Node). y.depth)
            (get-before nodes (n ∷ []) (get_or (get_or nodes j d).ports.items i e).child d
            (omega (arith, s.linked.earlier j d i e m q, m))) ∙ s.linked.deeper j d i e m q)
            (λ q. ap (λ (y : Node). y.depth)
            (get-before nodes (n ∷ []) (get_or n.ports.items i e).child d (r.ports i e q).there)
            ∙ (r.ports i e q).deep d)
            k h l;
        links = λ k d i e h l.
            at-push nodes n d (λ j x. i < length x.ports.items
            → LinkHolds (get_or all (get_or x.ports.items i e).child d).outlet
            (get_or x.ports.items i e))
            (λ j m q. subst (λ (y : Node). LinkHolds y.outlet
            (get_or (get_or nodes j d).ports.items i e))
            (sym (get-before nodes (n ∷ []) (get_or (get_or nodes j d).ports.items i e).child d
            (omega (arith, s.linked.earlier j d i e m q, m)))) (s.linked.links j d i e m q))
            (λ q.
            let p : Port = get_or n.ports.items i e in
            let ready = r.ports i e q in
            let same = get-before nodes (n ∷ []) p.child d ready.there in
            subst (λ (y : Node). LinkHolds y.outlet p) (sym same)
            (record {
              ends = ready.ends d;
              rest = [];
              in_order =
                  s.nothing_sent p.child d ready.there
                  ∙ sym (append-nil (taken p.inlet ++ known p.inlet)
                  ∙ ap (λ (xs : List Message). xs ++ known p.inlet) ready.nothing_taken
                  ∙ no-length (known p.inlet) ready.nothing_known);
            }))
            k h l;
      };
      stands = λ k d h. at-push nodes n d (λ j x. NodeStands x) (λ j l. s.stands j d l)
          (ready-stands nodes n r) k h;
      nothing_sent = λ k d h. at-push nodes n d (λ j x. sent x.outlet ≡ [])
          (λ j l. s.nothing_sent j d l) r.nothing_sent k h;
      shallow = λ k d h. at-push nodes n d (λ j x. x.depth ≤ 31) (λ j l. s.shallow j d l) r.shallow
          k h;
      going = λ k d h. at-push nodes n d (λ j x. x.failed ≡ false) (λ j l. s.going j d l) r.going k
          h;
    }

new-emits : (o : Option PlanOperator) (op : PlanOperator) → o ≡ Some op
    → StandsFor op no_messages [] → EmitsIn o no_messages [] []
new-emits o op e s = subst (λ (x : Option PlanOperator). EmitsIn x no_messages [] []) (sym e)
    (record { was = []; stands = s; says = says-self start_of_list [] tt })

-- the ports of a node over one part, and over two
one-port : (part : Part) (ports : List Port) → PortsOver (part ∷ []) ports → (p : Port)
    × (ports ≡ p ∷ []) × IsPortOf part p
one-port part [] o = absurd o
one-port part (p ∷ []) o = (p, refl, o.0)
one-port part (p ∷ q ∷ ps) o = absurd o.1

two-ports : (left right : Part) (ports : List Port) → PortsOver (left ∷ right ∷ []) ports
    → (p : Port) × (q : Port) × (ports ≡ p ∷ q ∷ []) × IsPortOf left p × IsPortOf right q
two-ports left right [] o = absurd o
two-ports left right (p ∷ []) o = absurd o.1
two-ports left right (p ∷ q ∷ []) o = (p, q, refl, o.0, o.1.0)
two-ports left right (p ∷ q ∷ r ∷ ps) o = absurd o.1.1

abbrev some-task : Task → Option Task
some-task x = Some x

-- a node over one part
module _ (mid new : List Node) (start number depth : ℕ) (s : Shape) (part whole : Part)
    (task : Task) (h : PartHolds mid start (number + 1) (depth + 1) s part)
    (len : length mid ≡ start + node_count s)
    (t : AddsTask number depth mid new task (part ∷ []) whole)
    (keeps : KeepsBags task) (one : task.ports ≡ 1) (takes : task.takes 0 ≡ part.schema) where
  abbrev added-one : Node
  added-one = t.adds.adds.node

  one-task : task_in added-one.operator ≡ Some task
  one-task = ap task_in t.adds.adds.operator_is ∙ ap some-task t.task_is

  pub one-holds : task.gives ≡ whole.schema
      → PartHolds new start number depth (One task s) whole
  one-holds gives =
      let n : Node = added-one in
      let p = one-port part t.adds.ports t.adds.over in
      let ports : n.ports.items ≡ p.0 ∷ [] = t.adds.adds.ports_are ∙ p.1 in
      let more = holds-more mid (n ∷ []) start (number + 1) (depth + 1) s part h in
      let at-root : (d : Node) → get_or (mid ++ n ∷ []) (start + node_count s) d ≡ n =
      λ d. ap (λ (k : ℕ). get_or (mid ++ n ∷ []) k d) (sym len) ∙ get-last mid n d in
      subst (λ (ns : List Node). PartHolds ns start number depth (One task s) whole)
      (sym t.adds.adds.added)
      (record {
        there = omega (arith, len, length-append mid (n ∷ []));
        root = t.root ∙ len;
        wired = λ d. (
          more.wired d,
          ap (λ (x : Node). task_in x.operator) (at-root d) ∙ one-task,
          subst (λ (x : Node). ChildAt x 0 (root_of s start)) (sym (at-root d))
              (λ e. ap (λ (ps : List Port). (get_or ps 0 e).child) ports ∙ p.2.child ∙ h.root),
        );
        numbered = λ d. (
          more.numbered d,
          subst (λ (x : Node). IsSpot x number depth) (sym (at-root d)) t.adds.adds.spot,
        );
        proper = (keeps, one, takes ∙ sym h.gives, h.proper);
        gives = gives;
        ends = λ d. subst (λ (k : ℕ). AreEnds (get_or (mid ++ n ∷ []) k d).outlet whole.inlet)
            (sym t.root) (subst (λ (x : Node). AreEnds x.outlet whole.inlet)
            (sym (get-last mid n d))
            t.adds.adds.ends);
        nothing_taken = t.adds.adds.nothing_taken;
        nothing_known = t.adds.adds.nothing_known;
      })

  pub one-new : depth ≤ 31 → IsNew mid → IsNew new
  one-new shallow s-new =
      let n : Node = added-one in
      let p = one-port part t.adds.ports t.adds.over in
      let ports : n.ports.items ≡ p.0 ∷ [] = t.adds.adds.ports_are ∙ p.1 in
      let count : length n.ports.items ≡ 1 = ap length ports in
      let deep : depth + 1 ≡ n.depth + 1 = omega (arith, t.adds.adds.spot.depth_is) in
      let ready : PortReady mid (kinds_at (task_in n.operator) 0) (n.depth + 1) p.0 =
      subst (λ (ks : List Kind). PortReady mid ks (n.depth + 1) p.0)
      (sym (ap (λ (o : Option Task). kinds_at o 0) one-task ∙ takes))
      (subst (λ (at : ℕ). PortReady mid part.schema at p.0) deep
      (port-ready mid start (number + 1) (depth + 1) s part p.0 h p.2)) in
      subst IsNew (sym t.adds.adds.added)
      (new-push mid n
      (record {
        counted = record {
          count = ap ports_of one-task ∙ one ∙ sym count;
          few =
              omega (arith, count);
        };
        ports = λ i e l. by-place n i e (omega (arith, l, count))
            (subst (λ (ps : List Port). PortReady mid (kinds_at (task_in n.operator) 0)
            (n.depth + 1) (get_or ps 0 e)) (sym ports) ready);
        shallow = omega (arith, t.adds.adds.spot.depth_is, shallow);
        emits = new-emits n.operator t.operator t.adds.adds.operator_is t.stands;
        nothing_sent = t.adds.adds.nothing_sent;
        nothing_pending = t.adds.adds.nothing_pending;
        going = t.adds.adds.going;
      }) s-new) where
        by-place : (n : Node) (i : ℕ) (e : Port) → i < 1 → PortReady mid
            (kinds_at (task_in n.operator) 0) (n.depth + 1) (get_or n.ports.items 0 e)
            → PortReady mid (kinds_at (task_in n.operator) i) (n.depth + 1)
            (get_or n.ports.items i e)
        by-place n zero e l r = r
        by-place n (suc i) e l r = absurd (omega (arith, l))

-- a node over two parts
module _ (mid new : List Node) (start number depth : ℕ) (a b : Shape) (left right whole : Part)
    (task : Task) (h : PartHolds mid start (number + 1) (depth + 1) a left)
    (k : PartHolds mid (start + node_count a) (number + 1 + node_count a) (depth + 1) b right)
    (len : length mid ≡ start + node_count a + node_count b)
    (t : AddsTask number depth mid new task (left ∷ right ∷ []) whole) (keeps : KeepsBags task)
    (two : task.ports ≡ 2) (takes : task.takes 0 ≡ left.schema)
    (takes' : task.takes 1 ≡ right.schema) where
  abbrev added-two : Node
  added-two = t.adds.adds.node

  two-task : task_in added-two.operator ≡ Some task
  two-task = ap task_in t.adds.adds.operator_is ∙ ap some-task t.task_is

  pub two-holds : task.gives ≡ whole.schema
      → PartHolds new start number depth (Two task a b) whole
  two-holds gives =
      let n : Node = added-two in
      let p = two-ports left right t.adds.ports t.adds.over in
      let ports : n.ports.items ≡ p.0 ∷ p.1 ∷ [] = t.adds.adds.ports_are ∙ p.2 in
      let more = holds-more mid (n ∷ []) start (number + 1) (depth + 1) a left h in
      let more' = holds-more mid (n ∷ []) (start + node_count a) (number + 1 + node_count a)
      (depth + 1) b right k in
      let place-is : start + (node_count a + node_count b) ≡ length mid = omega (arith, len) in
      let at-root : (d : Node) → get_or (mid ++ n ∷ []) (start + (node_count a + node_count b))
      d ≡ n = λ d. ap (λ (j : ℕ). get_or (mid ++ n ∷ []) j d) place-is ∙ get-last mid n d in
      subst (λ (ns : List Node). PartHolds ns start number depth (Two task a b) whole)
      (sym t.adds.adds.added)
      (record {
        there = omega (arith, len, length-append mid (n ∷ []));
        root = t.root ∙ sym place-is;
        wired = λ d. (
          more.wired d,
          more'.wired d,
          ap (λ (x : Node). task_in x.operator) (at-root d) ∙ two-task,
          subst (λ (x : Node). ChildAt x 0 (root_of a start)) (sym (at-root d))
              (λ e. ap (λ (ps : List Port). (get_or ps 0 e).child) ports ∙ p.3.child ∙ h.root),
          subst (λ (x : Node). ChildAt x 1 (root_of b (start + node_count a))) (sym (at-root d))
              (λ e. ap (λ (ps : List Port). (get_or ps 1 e).child) ports ∙ p.4.child ∙ k.root),
        );
        numbered = λ d. (
          more.numbered d,
          more'.numbered d,
          subst (λ (x : Node). IsSpot x number depth) (sym (at-root d)) t.adds.adds.spot,
        );
        proper = (keeps, two, takes ∙ sym h.gives, takes' ∙ sym k.gives, h.proper, k.proper);
        gives = gives;
        ends = λ d. subst (λ (j : ℕ). AreEnds (get_or (mid ++ n ∷ []) j d).outlet whole.inlet)
            (sym t.root) (subst (λ (x : Node). AreEnds x.outlet whole.inlet)
            (sym (get-last mid n d))
            t.adds.adds.ends);
        nothing_taken = t.adds.adds.nothing_taken;
        nothing_known = t.adds.adds.nothing_known;
      })

  pub two-new : depth ≤ 31 → IsNew mid → IsNew new
  two-new shallow s-new =
      let n : Node = added-two in
      let p = two-ports left right t.adds.ports t.adds.over in
      let ports : n.ports.items ≡ p.0 ∷ p.1 ∷ [] = t.adds.adds.ports_are ∙ p.2 in
      let count : length n.ports.items ≡ 2 = ap length ports in
      let deep : depth + 1 ≡ n.depth + 1 = omega (arith, t.adds.adds.spot.depth_is) in
      let ready : PortReady mid (kinds_at (task_in n.operator) 0) (n.depth + 1) p.0 =
      subst (λ (ks : List Kind). PortReady mid ks (n.depth + 1) p.0)
      (sym (ap (λ (o : Option Task). kinds_at o 0) two-task ∙ takes))
      (subst (λ (at : ℕ). PortReady mid left.schema at p.0) deep
      (port-ready mid start (number + 1) (depth + 1) a left p.0 h p.3)) in
      let ready' : PortReady mid (kinds_at (task_in n.operator) 1) (n.depth + 1) p.1 =
      subst (λ (ks : List Kind). PortReady mid ks (n.depth + 1) p.1)
      (sym (ap (λ (o : Option Task). kinds_at o 1) two-task ∙ takes'))
      (subst (λ (at : ℕ). PortReady mid right.schema at p.1) deep
      (port-ready mid (start + node_count a) (number + 1 + node_count a) (depth + 1) b right p.1 k
      p.4)) in
      subst IsNew (sym t.adds.adds.added)
      (new-push mid n
      (record {
        counted = record {
          count = ap ports_of two-task ∙ two ∙ sym count;
          few =
              omega (arith, count);
        };
        ports = λ i e l.
            by-place n i e (omega (arith, l, count))
            (subst (λ (ps : List Port). PortReady mid (kinds_at (task_in n.operator) 0)
            (n.depth + 1) (get_or ps 0 e)) (sym ports) ready)
            (subst (λ (ps : List Port). PortReady mid (kinds_at (task_in n.operator) 1)
            (n.depth + 1) (get_or ps 1 e)) (sym ports) ready');
        shallow = omega (arith, t.adds.adds.spot.depth_is, shallow);
        emits = new-emits n.operator t.operator t.adds.adds.operator_is t.stands;
        nothing_sent = t.adds.adds.nothing_sent;
        nothing_pending = t.adds.adds.nothing_pending;
        going = t.adds.adds.going;
      }) s-new) where
        by-place : (n : Node) (i : ℕ) (e : Port) → i < 2 → PortReady mid
            (kinds_at (task_in n.operator) 0) (n.depth + 1) (get_or n.ports.items 0 e)
            → PortReady mid (kinds_at (task_in n.operator) 1) (n.depth + 1)
            (get_or n.ports.items 1 e)
            → PortReady mid (kinds_at (task_in n.operator) i) (n.depth + 1)
            (get_or n.ports.items i e)
        by-place n zero e l r q = r
        by-place n (suc zero) e l r q = q
        by-place n (suc (suc i)) e l r q = absurd (omega (arith, l))

-- a source
module _ (old new : List Node) (number depth source : ℕ) (kinds : List Kind) (part : Part)
    (t : Adds number depth old new None [] part.inlet) (root : part.root ≡ length old) where
  pub leaf-holds : kinds ≡ part.schema
      → PartHolds new (length old) number depth (Leaf source kinds) part
  leaf-holds gives =
      subst (λ (ns : List Node). PartHolds ns (length old) number depth (Leaf source kinds) part)
      (sym t.added)
      (record {
        there = omega (arith, length-append old (t.node ∷ []));
        root = root;
        wired = λ d. ap (λ (x : Node). task_in x.operator) (get-last old t.node d)
            ∙ ap task_in t.operator_is;
        numbered = λ d. subst (λ (x : Node). IsSpot x number depth) (sym (get-last old t.node d))
            t.spot;
        proper = tt;
        gives = gives;
        ends = λ d. subst (λ (j : ℕ). AreEnds (get_or (old ++ t.node ∷ []) j d).outlet part.inlet)
            (sym root) (subst (λ (x : Node). AreEnds x.outlet part.inlet)
            (sym (get-last old t.node d)) t.ends);
        nothing_taken = t.nothing_taken;
        nothing_known = t.nothing_known;
      })

  pub leaf-new : depth ≤ 31 → IsNew old → IsNew new
  leaf-new shallow s-new =
      let count : length t.node.ports.items ≡ 0 = ap length t.ports_are in
      subst IsNew (sym t.added)
      (new-push old t.node
      (record {
        counted = record {
          count = ap (λ o. ports_of (task_in o)) t.operator_is ∙ sym count;
          few =
              omega (arith, count);
        };
        ports = λ i e l. absurd (omega (arith, l, count));
        shallow = omega (arith, t.spot.depth_is, shallow);
        emits = subst (λ (o : Option PlanOperator). EmitsIn o no_messages [] []) (sym t.operator_is)
            refl;
        nothing_sent = t.nothing_sent;
        nothing_pending = t.nothing_pending;
        going = t.going;
      }) s-new)
