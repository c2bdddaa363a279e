-- What a settled link leaves of the nodes.
use Rattle.std.proofs.Common.{◌≡◌, ℕ, ◌+◌, ◌≤◌, ◌<◌, ◌⊎◌, List, [], ◌++◌, length, get_or, set, refl}
use Rattle.std.proofs.Common.{sym, ◌∙◌, ap, subst, arith, append-nil, append_assoc, length-set, inl}
use Rattle.std.proofs.Common.{inr}
use Rattle.std.specs.Vec.{with_item}
use Rattle.std.proofs.lemmas.Bool.{cases_lt}
use Rattle.std.proofs.lemmas.List.{get_or-set_same, get_or-set_other}
use Rattle.pipes_stream.specs.declared.message.Message.{Message}
use Rattle.pipes_link.specs.declared.outlet.Outlet.{Outlet}
use Rattle.pipes_link.specs.Ends.{sent, spare, room_of, taken, known, ready, SameOutlet, SameInlet}
use Rattle.pipes_link.specs.Ends.{AreEnds}
use Rattle.pipes_link.proofs.Keeping.{ends_keep, same_outlet_self, same_outlet_trans}
use Rattle.pipes_link.proofs.Keeping.{same_inlet_self, same_inlet_trans}
use Rattle.pipes_node.specs.declared.port.Port.{Port}
use Rattle.pipes_node.specs.declared.node.Node.{Node}
use Rattle.pipes_node.specs.Nodes.{IsCounted, PortLooks, NodeLooks, NodeMoves, PortMoves, NodeTurned}
use Rattle.pipes_node.specs.Nodes.{task_in, ports_of}
use Rattle.pipes_box.specs.Networks.{LinkHolds, IsLinked, SettledLink, PortSettled, SettlesPorts}
use Rattle.pipes_node.proofs.NodeSteps.{place, get-any}
use Rattle.pipes_box.proofs.Pieces.{both-count, both-first, both-second, both-other, each-place}

abbrev pub with_outlet : Node → Outlet Message → Node
with_outlet n out = record {
  number = n.number;
  depth = n.depth;
  operator = n.operator;
  ports =
      n.ports;
  outlet = out;
  pending = n.pending;
  fresh = n.fresh;
  took = n.took;
  moved = n.moved;
  failed =
      n.failed;
}

abbrev pub with_port : Node → ℕ → Port → Node
with_port n i q = record {
  number = n.number;
  depth = n.depth;
  operator = n.operator;
  ports =
      with_item n.ports i q;
  outlet = n.outlet;
  pending = n.pending;
  fresh = n.fresh;
  took = n.took;
  moved = n.moved;
  failed = n.failed;
}

port_looks-self : (p : Port) → PortLooks p p
port_looks-self p = record {
  same_link = same_inlet_self p.inlet;
  watch = refl;
  schema = refl;
  child = refl;
  taken = refl;
}

port_looks-then : (a b c : Port) → PortLooks a b → PortLooks b c → PortLooks a c
port_looks-then a b c p q = record {
  same_link = same_inlet_trans a.inlet b.inlet c.inlet
      p.same_link q.same_link;
  watch = q.watch ∙ p.watch;
  schema = q.schema ∙ p.schema;
  child =
      q.child ∙ p.child;
  taken = q.taken ∙ p.taken;
}

pub node_looks-self : (n : Node) → NodeLooks n n
node_looks-self n = record {
  number = refl;
  depth = refl;
  operator = refl;
  pending = refl;
  failed =
      refl;
  count = refl;
  ports = λ k d l. port_looks-self (get_or n.ports.items k d);
  same_link =
      same_outlet_self n.outlet;
  sent = refl;
  spare = omega arith;
}

pub node_looks-then : (a b c : Node) → NodeLooks a b → NodeLooks b c → NodeLooks a c
node_looks-then a b c p q = record {
  number = q.number ∙ p.number;
  depth = q.depth ∙ p.depth;
  operator = q.operator ∙ p.operator;
  pending = q.pending ∙ p.pending;
  failed = q.failed ∙ p.failed;
  count = q.count ∙ p.count;
  ports = λ k d l. port_looks-then (get_or a.ports.items k d) (get_or b.ports.items k d)
      (get_or c.ports.items k d) (p.ports k d l) (q.ports k d (omega (arith, l, p.count)));
  same_link = same_outlet_trans a.outlet b.outlet c.outlet p.same_link q.same_link;
  sent = q.sent ∙ p.sent;
  spare = omega (arith, p.spare, q.spare);
}

pub looks-outlet : (n : Node) (out : Outlet Message) → SameOutlet n.outlet out
    → sent out ≡ sent n.outlet → spare n.outlet ≤ spare out → NodeLooks n (with_outlet n out)
looks-outlet n out same went more = record {
  number = refl;
  depth = refl;
  operator = refl;
  pending =
      refl;
  failed = refl;
  count = refl;
  ports = λ k d l. port_looks-self (get_or n.ports.items k d);
  same_link = same;
  sent = went;
  spare = more;
}

looks-port : (n : Node) (i : ℕ) (q : Port) → i < length n.ports.items
    → ((e : Port) → PortLooks (get_or n.ports.items i e) q) → NodeLooks n (with_port n i q)
looks-port n i q small looks = record {
  number = refl;
  depth = refl;
  operator = refl;
  pending = refl;
  failed = refl;
  count = length-set n.ports.items i q;
  ports = λ k d l.
      elim (place k i) [
        | inl e ↦ subst (λ (z : ℕ). PortLooks (get_or n.ports.items z d)
            (get_or (set n.ports.items i q) z d)) (sym e)
            (subst (PortLooks (get_or n.ports.items i d))
            (sym (get_or-set_same n.ports.items i q d small)) (looks d))
        | inr m ↦ subst (PortLooks (get_or n.ports.items k d))
            (sym (get_or-set_other n.ports.items i k q d m)) (port_looks-self
            (get_or n.ports.items k d))
      ];
  same_link = same_outlet_self n.outlet;
  sent = refl;
  spare = omega arith;
}

-- the port that was settled, and the outlet at the other end of its link
pub port-settled : (ns : List Node) (parent port child : ℕ) (u o : Node) (out : Outlet Message)
    (q : Port) → child < parent → parent < length ns
    → ((d : Node) → get_or ns child d ≡ u) → ((d : Node) → get_or ns parent d ≡ o)
    → port < length o.ports.items → ((e : Port) → (get_or o.ports.items port e).child ≡ child)
    → SameOutlet u.outlet out → sent out ≡ sent u.outlet → spare u.outlet ≤ spare out
    → ((e : Port) → PortLooks (get_or o.ports.items port e) q) → SettledLink out q
    → PortSettled ns (set (set ns child (with_outlet u out)) parent (with_port o port q)) parent
    port
port-settled ns parent port child u o out q earlier there u-is o-is small child-is same went more
    looks settled =
    let a : Node = with_outlet u out in
    let b : Node = with_port o port q in
    let new : List Node = set (set ns child a) parent b in
    record {
      count = both-count ns child parent a b earlier there;
      looks = λ k d l.
          each-place ns child parent a b earlier there NodeLooks node_looks-self
          (λ e. subst (λ (n : Node). NodeLooks n a) (sym (u-is e))
          (looks-outlet u out same went more))
          (λ e. subst (λ (n : Node). NodeLooks n b) (sym (o-is e))
          (looks-port o port q small looks)) k d;
      others = λ k d i e l m apart.
          elim (place k parent) [
            | inl x ↦
                subst (λ (z : ℕ). (z ≡ parent → i ≡ port → ⊥)
                → get_or (get_or new z d).ports.items i e ≡ get_or (get_or ns z d).ports.items i
                e) (sym x)
                (λ far. ap (λ (n : Node). get_or n.ports.items i e)
                (both-second ns child parent a b earlier there d)
                ∙ (get_or-set_other o.ports.items port i q e (far refl)
                ∙ ap (λ (n : Node). get_or n.ports.items i e) (sym (o-is d)))) apart
            | inr x ↦ elim (place k child) [
              | inl y ↦
                  subst (λ (z : ℕ). get_or (get_or new z d).ports.items i e ≡ get_or
                  (get_or ns z d).ports.items i e) (sym y)
                  (ap (λ (n : Node). get_or n.ports.items i e)
                  (both-first ns child parent a b earlier there d)
                  ∙ ap (λ (n : Node). get_or n.ports.items i e) (sym (u-is d)))
              | inr y ↦ ap (λ (n : Node). get_or n.ports.items i e)
                  (both-other ns child parent a b earlier there k d y x)
            ]
          ];
      settled = λ d e.
          let c : (get_or (get_or ns parent d).ports.items port e).child ≡ child =
          ap (λ (n : Node). (get_or n.ports.items port e).child) (o-is d) ∙ child-is e in
          let x : out ≡ (get_or new (get_or (get_or ns parent d).ports.items port e).child
          d).outlet =
          sym (ap (λ (n : Node). n.outlet) (both-first ns child parent a b earlier there d))
          ∙ ap (λ (k : ℕ). (get_or new k d).outlet) (sym c) in
          let y : q ≡ get_or (get_or new parent d).ports.items port e =
          sym (get_or-set_same o.ports.items port q e small)
          ∙ sym (ap (λ (n : Node). get_or n.ports.items port e)
          (both-second ns child parent a b earlier there d)) in
          subst (SettledLink (get_or new (get_or (get_or ns parent d).ports.items port e).child
          d).outlet) y (subst (λ (w : Outlet Message). SettledLink w q) x settled);
    }

-- the port that was read
pub port-read : (ns : List Node) (parent port : ℕ) (n : Node) (p : Port) → parent < length ns
    → ((d : Node) → port < length (get_or ns parent d).ports.items)
    → p ≡ get_or (get_or ns parent n).ports.items port p
    → (d : Node) (e : Port) → p ≡ get_or (get_or ns parent d).ports.items port e
port-read ns parent port n p there has p-is d e =
    p-is ∙ ap (λ (x : Node). get_or x.ports.items port p) (get-any ns parent n d there)
    ∙ get-any (get_or ns parent d).ports.items port p e (has d)

-- a settled link stays so where the port stays, and the outlet is only looked at
settled-looks : (a b : Outlet Message) (p : Port) → sent b ≡ sent a → spare a ≤ spare b
    → SameOutlet a b → SettledLink a p → SettledLink b p
settled-looks a b p went more same s = record {
  waits = s.waits ∙ sym went;
  all_known =
      omega (arith, s.all_known, more, same.1);
}

link-settled : (outlet : Outlet Message) (p : Port) → AreEnds outlet p.inlet → SettledLink outlet p
    → LinkHolds outlet p
link-settled outlet p ends s = record {
  ends = ends;
  rest = [];
  in_order = sym s.waits
      ∙ sym (append-nil (taken p.inlet ++ known p.inlet));
}

link-looks : (a b : Outlet Message) (p : Port) → SameOutlet a b → sent b ≡ sent a → LinkHolds a p
    → LinkHolds b p
link-looks a b p same went l = record {
  ends = ends_keep a b p.inlet p.inlet same
      (same_inlet_self p.inlet) l.ends;
  rest = l.rest;
  in_order = went ∙ l.in_order;
}

looks-counted : (a b : Node) → NodeLooks a b → IsCounted a → IsCounted b
looks-counted a b l c = record {
  count = ap (λ o. ports_of (task_in o)) l.operator ∙ c.count
      ∙ sym l.count;
  few = omega (arith, c.few, l.count);
}

-- a child stays one deeper
pub deeper-kept : (old new : List Node) → length new ≡ length old
    → ((k : ℕ) (d : Node) → k < length old → (get_or new k d).depth ≡ (get_or old k d).depth)
    → ((k : ℕ) (d : Node) → k < length old
    → length (get_or new k d).ports.items ≡ length (get_or old k d).ports.items)
    → ((k : ℕ) (d : Node) (i : ℕ) (e : Port) → k < length old
    → i < length (get_or old k d).ports.items
    → (get_or (get_or new k d).ports.items i e).child
    ≡ (get_or (get_or old k d).ports.items i e).child)
    → IsLinked old → (k : ℕ) (d : Node) (i : ℕ) (e : Port) → k < length new
    → i < length (get_or new k d).ports.items
    → (get_or new (get_or (get_or new k d).ports.items i e).child d).depth
    ≡ (get_or new k d).depth + 1
deeper-kept old new count depths ports children linked k d i e h l =
    let small : k < length old = omega (arith, h, count) in
    let there : i < length (get_or old k d).ports.items = omega (arith, l, ports k d small) in
    let c : ℕ = (get_or (get_or old k d).ports.items i e).child in
    let below : c < length old = omega (arith, linked.earlier k d i e small there, small) in
    omega (
      arith,
      ap (λ (z : ℕ). (get_or new z d).depth) (children k d i e small there),
      depths c d below,
      depths k d small,
      linked.deeper k d i e small there,
    )

-- one more port was settled
module _ (old new : List Node) (parent port : ℕ) (there : parent < length old)
    (linked : IsLinked old) (s : PortSettled old new parent port) where
  small : (k : ℕ) → k < length new → k < length old
  small k h = omega (arith, h, s.count)

  port-small : (k : ℕ) (d : Node) (i : ℕ) → k < length new → i < length (get_or new k d).ports.items
      → i < length (get_or old k d).ports.items
  port-small k d i h l = omega (arith, l, (s.looks k d (small k h)).count)

  child-same : (k : ℕ) (d : Node) (i : ℕ) (e : Port) → k < length new
      → i < length (get_or new k d).ports.items → (get_or (get_or new k d).ports.items i e).child ≡
      (get_or (get_or old k d).ports.items i e).child
  child-same k d i e h l = ((s.looks k d (small k h)).ports i e (port-small k d i h l)).child

  child-earlier : (k : ℕ) (d : Node) (i : ℕ) (e : Port) → k < length new
      → i < length (get_or new k d).ports.items → (get_or (get_or old k d).ports.items i e).child <
      length old
  child-earlier k d i e h l = omega (
    arith,
    linked.earlier k d i e (small k h)
        (port-small k d i h l),
    small k h,
  )

  link-kept : (k : ℕ) (d : Node) (i : ℕ) (e : Port) → k < length new
      → i < length (get_or new k d).ports.items → (k ≡ parent → i ≡ port → ⊥)
      → LinkHolds (get_or new (get_or (get_or old k d).ports.items i e).child d).outlet
      (get_or (get_or new k d).ports.items i e)
  link-kept k d i e h l apart =
      let c : ℕ = (get_or (get_or old k d).ports.items i e).child in
      let looks = s.looks c d (child-earlier k d i e h l) in
      subst (LinkHolds (get_or new c d).outlet)
      (sym (s.others k d i e (small k h) (port-small k d i h l) apart))
      (link-looks (get_or old c d).outlet (get_or new c d).outlet
      (get_or (get_or old k d).ports.items i e) looks.same_link looks.sent
      (linked.links k d i e (small k h) (port-small k d i h l)))

  link-done : (d : Node) (e : Port) → port < length (get_or new parent d).ports.items
      → parent < length new → LinkHolds
      (get_or new (get_or (get_or old parent d).ports.items port e).child d).outlet
      (get_or (get_or new parent d).ports.items port e)
  link-done d e l h =
      let c : ℕ = (get_or (get_or old parent d).ports.items port e).child in
      let looks = s.looks c d (child-earlier parent d port e h l) in
      let port-looks = (s.looks parent d there).ports port e (port-small parent d port h l) in
      let before = linked.links parent d port e there (port-small parent d port h l) in
      link-settled (get_or new c d).outlet (get_or (get_or new parent d).ports.items port e)
      (ends_keep (get_or old c d).outlet (get_or new c d).outlet
      (get_or (get_or old parent d).ports.items port e).inlet
      (get_or (get_or new parent d).ports.items port e).inlet looks.same_link
      port-looks.same_link before.ends)
      (s.settled d e)

  pub linked-settled : IsLinked new
  linked-settled = record {
    counted = λ k d h. looks-counted (get_or old k d) (get_or new k d) (s.looks k d (small k h))
        (linked.counted k d (small k h));
    earlier = λ k d i e h l. subst (λ (c : ℕ). c < k) (sym (child-same k d i e h l))
        (linked.earlier k d i e (small k h) (port-small k d i h l));
    deeper = deeper-kept old new s.count (λ k d h. (s.looks k d h).depth)
        (λ k d h. (s.looks k d h).count)
        (λ k d i e h l. ((s.looks k d h).ports i e l).child) linked;
    links = λ k d i e h l.
        subst (λ (c : ℕ). LinkHolds (get_or new c d).outlet (get_or (get_or new k d).ports.items i
        e)) (sym (child-same k d i e h l))
        (elim (place k parent) [
          | inl x ↦ elim (place i port) [
            | inl y ↦
                subst (λ (z : ℕ). z < length new → i < length (get_or new z d).ports.items
                → LinkHolds (get_or new (get_or (get_or old z d).ports.items i e).child d).outlet
                (get_or (get_or new z d).ports.items i e)) (sym x)
                (subst (λ (z : ℕ). parent < length new → z < length
                (get_or new parent d).ports.items → LinkHolds
                (get_or new (get_or (get_or old parent d).ports.items z e).child d).outlet
                (get_or (get_or new parent d).ports.items z e)) (sym y)
                (λ a b. link-done d e b a)) h l
            | inr y ↦ link-kept k d i e h l (λ a b. y b)
          ]
          | inr x ↦ link-kept k d i e h l (λ a b. x a)
        ]);
  }

-- the ports before this one are settled, and this one
pub settles-next : (old mid new : List Node) (parent port : ℕ) → parent < length mid
    → SettlesPorts old mid parent port → PortSettled mid new parent port
    → SettlesPorts old new parent (port + 1)
settles-next old mid new parent port there done s = record {
  count = s.count ∙ done.count;
  looks = λ k d h. node_looks-then (get_or old k d) (get_or mid k d) (get_or new k d)
      (done.looks k d h) (s.looks k d (omega (arith, h, done.count)));
  linked = linked-settled mid new parent port there done.linked s;
  settled = λ k d i e h l before.
      let small : k < length mid = omega (arith, h, s.count) in
      let looks = s.looks k d small in
      let in-range : i < length (get_or mid k d).ports.items = omega (arith, l, looks.count) in
      let same : (get_or (get_or new k d).ports.items i e).child ≡
      (get_or (get_or mid k d).ports.items i e).child = (looks.ports i e in-range).child in
      let c : ℕ = (get_or (get_or mid k d).ports.items i e).child in
      let child-looks = s.looks c d (omega (
        arith,
        done.linked.earlier k d i e small in-range,
        small,
      )) in
      let kept : (k ≡ parent → i ≡ port → ⊥) → (k < parent) ⊎ ((k ≡ parent) × (i < port))
      → SettledLink (get_or new c d).outlet (get_or (get_or new k d).ports.items i e) =
      λ apart old-one. subst (SettledLink (get_or new c d).outlet)
      (sym (s.others k d i e small in-range apart))
      (settled-looks (get_or mid c d).outlet (get_or new c d).outlet
      (get_or (get_or mid k d).ports.items i e) child-looks.sent child-looks.spare
      child-looks.same_link (done.settled k d i e small in-range old-one)) in
      subst (λ (z : ℕ). SettledLink (get_or new z d).outlet (get_or (get_or new k d).ports.items i
      e)) (sym same)
      (elim before [
        | inl x ↦ kept (λ a b. absurd (omega (arith, a, x))) (inl x)
        | inr x ↦ elim (place i port) [
          | inl y ↦
              subst (λ (z : ℕ). SettledLink (get_or new (get_or (get_or mid z d).ports.items i
              e).child d).outlet (get_or (get_or new z d).ports.items i e)) (sym x.0)
              (subst (λ (z : ℕ). SettledLink
              (get_or new (get_or (get_or mid parent d).ports.items z e).child d).outlet
              (get_or (get_or new parent d).ports.items z e)) (sym y) (s.settled d e))
          | inr y ↦ kept (λ a b. y b) (inr (x.0, omega (arith, x.1, y)))
        ]
      ]);
}

-- all ports of a node are settled
pub settles-node : (old new : List Node) (parent port : ℕ) →
    ((d : Node) → length (get_or new parent d).ports.items ≤ port)
    → SettlesPorts old new parent port
    → SettlesPorts old new (parent + 1) 0
settles-node old new parent port all s = record {
  count = s.count;
  looks = s.looks;
  linked = s.linked;
  settled = λ k d i e h l before.
      s.settled k d i e h l (elim before [
        | inl x ↦ elim (place k parent) [
          | inl y ↦ inr (y, by-node k d i y l (all d))
          | inr y ↦ inl
              (omega (arith, x, y))
        ]
        | inr x ↦ absurd (omega (arith, x.1))
      ]);
} where
  by-node : (k : ℕ) (d : Node) (i : ℕ) → k ≡ parent → i < length (get_or new k d).ports.items
      → length (get_or new parent d).ports.items ≤ port → i < port
  by-node k d i x l h = let same : length (get_or new k d).ports.items ≡ length
      (get_or new parent d).ports.items =
      ap (λ (z : ℕ). length (get_or new z d).ports.items) x in omega (arith, same, l, h)

pub settles_none : (ns : List Node) → IsLinked ns → SettlesPorts ns ns 0 0
settles_none ns linked = record {
  count = refl;
  looks = λ k d h. node_looks-self (get_or ns k d);
  linked = linked;
  settled = λ k d i e h l before. elim before [
    | inl x ↦ absurd (omega (arith, x))
    | inr x ↦ absurd
        (omega (arith, x.1))
  ];
}
