-- How much a round moved, and what one that moved nothing leaves.
use Rattle.std.proofs.Common.{◌≡◌, ℕ, zero, suc, ◌+◌, ◌-◌, ◌^◌, ◌≤◌, ◌<◌, min, false, List, [], ◌∷◌}
use Rattle.std.proofs.Common.{◌++◌, length, get_or, refl, sym, ◌∙◌, ap, subst, arith, append-nil}
use Rattle.std.proofs.Common.{length-append, inl}
use Rattle.std.specs.List.{sum_by}
use Rattle.std.proofs.lemmas.List.Sums.{sum_by-cons}
use Rattle.pipes_stream.specs.declared.message.Message.{Message}
use Rattle.pipes_link.specs.declared.outlet.Outlet.{Outlet}
use Rattle.pipes_link.specs.declared.inlet.Inlet.{Inlet}
use Rattle.pipes_link.specs.Ends.{sent, spare, room_of, taken, known, ready}
use Rattle.pipes_link.proofs.Keeping.{room_of-bounds}
use Rattle.pipes_node.specs.declared.port.Port.{Port}
use Rattle.pipes_node.specs.declared.node.Node.{Node}
use Rattle.pipes_box.specs.declared.plan_box.PlanBox.{PlanBox}
use Rattle.pipes_node.specs.Nodes.{NodeLooks, NodeMoves, NodeTurned, PortMoves, Turned, total_ready}
use Rattle.pipes_box.specs.Networks.{IsLinked, SettledLink, SettlesPorts}
use Rattle.pipes_box.specs.Boxes.{IsSound, IsQuiet, IsStill, Moved, moved_by, all_moved}
use Rattle.pipes_box.specs.Rounds.{AllTurned, TopLooks, TopTaken}
use Rattle.pipes_node.proofs.Totals.{Rises, sum-rises, sum-same, sum-clamped, sum-zero}
use Rattle.pipes_box.proofs.BoxLaw.{some-node}
use Rattle.pipes_box.proofs.Rounds.{no-more}

-- ---- how many messages moved

-- by a look, none
looks-moved : (a b : Node) → NodeLooks a b → moved_by b ≡ moved_by a
looks-moved a b l =
    let ports = sum-same (λ (p : Port). length (taken p.inlet)) a.ports.items b.ports.items l.count
    (λ k d h. ap length (l.ports k d h).taken) in
    omega (arith, ports, ap length l.sent)

pub all-looked : (old new : List Node) → length new ≡ length old
    → ((k : ℕ) (d : Node) → k < length old → NodeLooks (get_or old k d) (get_or new k d))
    → all_moved new ≡ all_moved old
all-looked old new count looks = sum-same moved_by old new count
    (λ k d h. looks-moved (get_or old k d) (get_or new k d) (looks k d h))

-- by a port, those that it knew to wait, if none is left
pub port-took-all : (p q : Port) → PortMoves p q → ready q.inlet ≡ 0
    → length (taken q.inlet) ≡ length (taken p.inlet) + ready p.inlet
port-took-all p q m none =
    omega (
      arith,
      ap length m.in_order,
      length-append (taken q.inlet) (known q.inlet),
      length-append (taken p.inlet) (known p.inlet),
      none,
    )

-- and by a node in a turn, as many as it says
turned-moved : (a b : Node) → NodeMoves a b → Turned a b → Rises (moved_by a) b.moved (moved_by b)
    (2 ^ 64 - 1)
turned-moved a b m t =
    let ports =
    sum-rises (λ (p : Port). length (taken p.inlet)) (λ (p : Port). ready p.inlet) a.ports.items
    b.ports.items m.count
    (λ k d h. port-took-all (get_or a.ports.items k d) (get_or b.ports.items k d) (m.ports k d h)
    (sum-zero (λ (p : Port). ready p.inlet) b.ports.items t.drained k d
    (omega (arith, h, m.count)))) in
    record {
      by = total_ready a.ports.items + t.put;
      rose = omega (arith, ports, t.sent);
      clamped = omega (arith, t.moved);
    }

-- a node that moved nothing in its turn
pub record Idle (a b : Node) : Type 0 where
  pub knew_none : total_ready a.ports.items ≡ 0
  pub same_sent : sent b.outlet ≡ sent a.outlet
  pub same_pending : length b.pending.items ≡ length a.pending.items
  pub stuck : 0 < spare a.outlet → a.pending.items ≡ []
  pub places : spare a.outlet ≤ spare b.outlet
  pub moves : NodeMoves a b

module _ (b0 b1 b2 b3 b4 : PlanBox) (top : TopLooks b0 b1) (links : SettlesPorts b1.nodes.items
    b2.nodes.items (length b1.nodes.items) 0) (turned : AllTurned b2.nodes.items b3.nodes.items)
    (top' : TopLooks b3 b4)
    (moved : ℕ) (total : moved ≡ min (sum_by (λ n. n.moved) b3.nodes.items) (2 ^ 64 - 1)) where
  each : (k : ℕ) (d : Node) → k < length b2.nodes.items → Turned (get_or b2.nodes.items k d)
      (get_or b3.nodes.items k d)
  each k d h = (turned.turned k d h).turned (turned.going k d (omega (arith, h, turned.count)))

  -- the number that a round answers
  pub round-moved : Moved b0.nodes.items b4.nodes.items moved
  round-moved =
      let rose = sum-clamped moved_by (λ (n : Node). n.moved) (2 ^ 64 - 1) b2.nodes.items
      b3.nodes.items turned.count
      (λ k d h. turned-moved (get_or b2.nodes.items k d) (get_or b3.nodes.items k d)
      (turned.turned k d h).moves (each k d h)) in
      record {
        count = rose.by;
        more = omega (
          arith,
          rose.rose,
          all-looked b0.nodes.items b1.nodes.items top.count
              top.looks,
          all-looked b1.nodes.items b2.nodes.items links.count links.looks,
          all-looked b3.nodes.items b4.nodes.items top'.count top'.looks,
        );
        answer_is = omega (arith, total, rose.clamped);
      }

  -- ---- a round that moved nothing

  module _ (none : moved ≡ 0) where
    nothing : sum_by (λ (n : Node). n.moved) b3.nodes.items ≡ 0
    nothing = omega (arith, none, total)

    turned-idle : (k : ℕ) (d : Node) → k < length b2.nodes.items
        → Idle (get_or b2.nodes.items k d) (get_or b3.nodes.items k d)
    turned-idle k d h =
        let a : Node = get_or b2.nodes.items k d in
        let b : Node = get_or b3.nodes.items k d in
        let t : Turned a b = each k d h in
        let m : NodeMoves a b = (turned.turned k d h).moves in
        let zero_moved : b.moved ≡ 0 = sum-zero (λ (n : Node). n.moved) b3.nodes.items nothing k d
        (omega (arith, h, turned.count)) in
        let knew : total_ready a.ports.items ≡ 0 = omega (arith, zero_moved, t.moved) in
        let put : t.put ≡ 0 = omega (arith, zero_moved, t.moved) in
        let more : length m.puts.0 ≡ 0 = omega (
          arith,
          t.sent,
          put,
          ap length m.puts.1,
          length-append (sent a.outlet) m.puts.0,
        ) in
        record {
          knew_none = knew;
          same_sent = m.puts.1 ∙ ap (λ (xs : List Message). sent a.outlet ++ xs)
              (no-more m.puts.0 more) ∙ append-nil (sent a.outlet);
          same_pending = omega (arith, t.kept knew, put);
          stuck = t.stuck knew put;
          places = t.places put;
          moves = m;
        }

    -- with a free place, nothing is pending with it
    idle-quiet : (a b c : Node) → Idle a b → NodeLooks b c → 0 < spare a.outlet
        → (c.pending.items ≡ []) × (0 < spare c.outlet) × (sent c.outlet ≡ sent a.outlet)
    idle-quiet a b c i l free =
        let empty : length b.pending.items ≡ 0 = omega (
          arith,
          i.same_pending,
          ap length (i.stuck free),
        ) in (
          ap (λ v. v.items) l.pending ∙ no-more b.pending.items empty,
          omega (arith, free, i.places, l.spare),
          l.sent ∙ i.same_sent,
        )

    -- the link of a port that knew of no message once it was settled
    settled-free : (o : Outlet Message) (p : Port) → SettledLink o p → ready p.inlet ≡ 0
        → (taken p.inlet ≡ sent o) × (0 < spare o)
    settled-free o p s empty =
        let bounds = room_of-bounds o in (
          sym (ap (λ (xs : List Message). taken p.inlet ++ xs) (no-more (known p.inlet) empty)
              ∙ append-nil (taken p.inlet)) ∙ s.waits,
          omega (arith, s.all_known, bounds.0, empty),
        )

    port-idle : (p q : Port) → PortMoves p q → ready p.inlet ≡ 0 → taken q.inlet ≡ taken p.inlet
    port-idle p q m empty =
        let left : ready q.inlet ≡ 0 = omega (arith, m.fewer, empty) in
        sym (ap (λ (xs : List Message). taken q.inlet ++ xs) (no-more (known q.inlet) left)
        ∙ append-nil (taken q.inlet)) ∙ m.in_order
        ∙ ap (λ (xs : List Message). taken p.inlet ++ xs) (no-more (known p.inlet) empty)
        ∙ append-nil (taken p.inlet)

    count2 : length b4.nodes.items ≡ length b2.nodes.items
    count2 = top'.count ∙ turned.count

    still-links : (k : ℕ) (d : Node) (i : ℕ) (e : Port) → k < length b4.nodes.items
        → i < length (get_or b4.nodes.items k d).ports.items
        → IsQuiet (get_or b4.nodes.items (get_or (get_or b4.nodes.items k d).ports.items i e).child
        d) (get_or (get_or b4.nodes.items k d).ports.items i e).inlet
    still-links k d i e h4 l4 =
        let n2 : Node = get_or b2.nodes.items k d in
        let n3 : Node = get_or b3.nodes.items k d in
        let n4 : Node = get_or b4.nodes.items k d in
        let h2 : k < length b2.nodes.items = omega (arith, h4, count2) in
        let h3 : k < length b3.nodes.items = omega (arith, h4, top'.count) in
        let me : Idle n2 n3 = turned-idle k d h2 in
        let looks : NodeLooks n3 n4 = top'.looks k d h3 in
        let l3 : i < length n3.ports.items = omega (arith, l4, looks.count) in
        let l2 : i < length n2.ports.items = omega (arith, l3, me.moves.count) in
        let p2 : Port = get_or n2.ports.items i e in
        let p3 : Port = get_or n3.ports.items i e in
        let p4 : Port = get_or n4.ports.items i e in
        let c : ℕ = p2.child in
        let same_child : p4.child ≡ c = (looks.ports i e l3).child
        ∙ (me.moves.ports i e l2).child in
        let c2 : c < length b2.nodes.items = omega (
          arith,
          links.linked.earlier k d i e h2 l2,
          h2,
        ) in
        let empty : ready p2.inlet ≡ 0 = sum-zero (λ (p : Port). ready p.inlet) n2.ports.items
        me.knew_none i e l2 in
        let free = settled-free (get_or b2.nodes.items c d).outlet p2
        (links.settled k d i e h2 l2 (inl (omega (arith, h2, links.count)))) empty in
        let quiet = idle-quiet (get_or b2.nodes.items c d) (get_or b3.nodes.items c d)
        (get_or b4.nodes.items c d) (turned-idle c d c2)
        (top'.looks c d (omega (arith, c2, turned.count))) free.1 in
        subst (λ (z : ℕ). IsQuiet (get_or b4.nodes.items z d) p4.inlet) (sym same_child)
        (record {
          all_taken = (looks.ports i e l3).taken ∙ port-idle p2 p3 (me.moves.ports i e l2) empty
              ∙ free.0 ∙ sym quiet.2;
          nothing_pending = quiet.0;
          has_place = quiet.1;
        })

    still-top : b2.top ≡ b1.top → b3.top ≡ b2.top → ready b4.top ≡ 0 → (k : ℕ) (d : Node)
        → k + 1 ≡ length b4.nodes.items → IsQuiet (get_or b4.nodes.items k d) b4.top
    still-top same same' empty k d last =
        let n1 : Node = get_or b1.nodes.items k d in
        let tops : b3.top ≡ b1.top = same' ∙ same in
        let before : ready b1.top ≡ 0 = omega (
          arith,
          empty,
          top'.more_known,
          ap (λ (t : Inlet Message). ready t) tops,
        ) in
        let last0 : k + 1 ≡ length b0.nodes.items = omega (
          arith,
          last,
          count2,
          links.count,
          top.count,
        ) in
        let h1 : k < length b1.nodes.items = omega (arith, last0, top.count) in
        let h2 : k < length b2.nodes.items = omega (arith, h1, links.count) in
        let free : 0 < spare n1.outlet = omega (
          arith,
          top.all_known k d last0,
          before,
          (room_of-bounds n1.outlet).0,
        ) in
        let waits : taken b1.top ≡ sent n1.outlet =
        sym (ap (λ (xs : List Message). taken b1.top ++ xs) (no-more (known b1.top) before)
        ∙ append-nil (taken b1.top)) ∙ top.waits k d last0 in
        let look = links.looks k d h1 in
        let quiet = idle-quiet (get_or b2.nodes.items k d) (get_or b3.nodes.items k d)
        (get_or b4.nodes.items k d) (turned-idle k d h2)
        (top'.looks k d (omega (arith, h2, turned.count))) (omega (arith, free, look.spare)) in
        record {
          all_taken = top'.taken_same ∙ ap (λ (t : Inlet Message). taken t) tops ∙ waits
              ∙ sym look.sent ∙ sym quiet.2;
          nothing_pending = quiet.0;
          has_place = quiet.1;
        }

    -- once nothing moved and nothing waits at the top, nothing is on its way
    pub round-still : b2.top ≡ b1.top → b3.top ≡ b2.top → ready b4.top ≡ 0 → b4.failed ≡ false
        → IsStill b4
    round-still same same' empty going = record {
      going = going;
      links = still-links;
      top = still-top same same' empty;
    }

    -- nothing waits at the top after a round that moved nothing, where all was taken before
    pub round-empty : b2.top ≡ b1.top → b3.top ≡ b2.top → IsSound b0 → TopTaken b0
        → ready b4.top ≡ 0
    round-empty same same' sound all =
        let k : ℕ = sound.root in
        let d : Node = some-node b0.nodes.items (omega (arith, sound.root_is)) in
        let h0 : k < length b0.nodes.items = omega (arith, sound.root_is) in
        let h1 : k < length b1.nodes.items = omega (arith, h0, top.count) in
        let h2 : k < length b2.nodes.items = omega (arith, h1, links.count) in
        let h3 : k < length b3.nodes.items = omega (arith, h2, turned.count) in
        let last : k + 1 ≡ length b3.nodes.items =
        omega (arith, sound.root_is, top.count, links.count, turned.count) in
        let tops : taken b4.top ≡ taken b0.top = top'.taken_same
        ∙ ap (λ (t : Inlet Message). taken t) (same' ∙ same) ∙ top.taken_same in
        let sents : sent (get_or b4.nodes.items k d).outlet
        ≡ sent (get_or b0.nodes.items k d).outlet =
        (top'.looks k d h3).sent ∙ (turned-idle k d h2).same_sent ∙ (links.looks k d h1).sent
        ∙ (top.looks k d h0).sent in
        omega (
          arith,
          ap length (top'.waits k d last),
          length-append (taken b4.top) (known b4.top),
          ap length tops,
          ap length sents,
          ap length (all k d sound.root_is),
        )
