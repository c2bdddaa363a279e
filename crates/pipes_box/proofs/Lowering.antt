-- The first number of the backlog that a round lowers.
use Rattle.std.proofs.Common.{◌≡◌, ℕ, zero, suc, ◌+◌, ◌-◌, ◌*◌, ◌^◌, ◌≤◌, ◌<◌, min, Bool, cond, eqb}
use Rattle.std.proofs.Common.{List, [], ◌∷◌, ◌++◌, length, take, get_or, refl, sym, ◌∙◌, ap, subst}
use Rattle.std.proofs.Common.{arith, eq-eqb, inl, inr, ◌⊎◌}
use Rattle.std.specs.List.{sum_by}
use Rattle.std.proofs.lemmas.Bool.{cases_lt, ne_eqb}
use Rattle.std.proofs.lemmas.List.{take_more}
use Rattle.std.proofs.lemmas.List.Sums.{sum_by-cons}
use Rattle.pipes_link.specs.Ends.{sent, taken, ready}
use Rattle.pipes_node.specs.declared.port.Port.{Port}
use Rattle.pipes_node.specs.declared.node.Node.{Node}
use Rattle.pipes_box.specs.declared.plan_box.PlanBox.{PlanBox}
use Rattle.pipes_node.specs.Nodes.{NodeLooks, NodeMoves, Turned, total_ready}
use Rattle.pipes_box.specs.Networks.{IsLinked, SettlesPorts}
use Rattle.pipes_box.specs.Boxes.{IsSound}
use Rattle.pipes_box.specs.Rounds.{AllTurned, TopLooks}
use Rattle.pipes_box.specs.Backlog.{backlog_of, FallsAt, lowered_first}
use Rattle.pipes_node.specs.Nodes.{lowered_by}
use Rattle.pipes_node.proofs.NodeSteps.{place, get-any}
use Rattle.pipes_node.proofs.Totals.{sum-rises, sum-same, sum-zero}
use Rattle.pipes_box.proofs.BoxLaw.{some-node}
use Rattle.pipes_box.proofs.Moving.{port-took-all}
use Rattle.pipes_box.proofs.Falls.{Went, falls-waiting, falls-pending}

-- ---- the first of the numbers that the nodes lowered

lowered-push : (ns : List Node) (x : Node)
    → lowered_first (ns ++ x ∷ []) ≡ min (lowered_first ns) (lowered_by x)
lowered-push [] x = omega arith
lowered-push (n ∷ ns) x = omega (arith, lowered-push ns x)

-- over one node more
pub lowered-more : (ns : List Node) (i : ℕ) (n : Node) → i < length ns → n ≡ get_or ns i n
    → lowered_first (take (i + 1) ns) ≡ min (lowered_first (take i ns)) (lowered_by n)
lowered-more ns i n h e =
    ap lowered_first (take_more ns i n h) ∙ lowered-push (take i ns) (get_or ns i n)
    ∙ ap (λ (x : Node). min (lowered_first (take i ns)) (lowered_by x)) (sym e)

-- no node lowered an earlier one
lowered-least : (ns : List Node) (k : ℕ) (d : Node) → k < length ns
    → lowered_first ns ≤ lowered_by (get_or ns k d)
lowered-least [] k d h = absurd (omega (arith, h))
lowered-least (n ∷ ns) zero d h = omega arith
lowered-least (n ∷ ns) (suc k) d h = omega (arith, lowered-least ns k d (omega (arith, h)))

-- and one lowered this one
record Found (ns : List Node) : Type 0 where
  at : ℕ
  there : at < length ns
  is : (d : Node) → lowered_by (get_or ns at d) ≡ lowered_first ns

lowered-found : (ns : List Node) → lowered_first ns < 64 → Found ns
lowered-found [] h = absurd (omega (arith, h))
lowered-found (n ∷ ns) h =
    elim (place (lowered_first (n ∷ ns)) (lowered_by n)) [
      | inl e ↦ record { at = 0; there = omega arith; is = λ d. sym e }
      | inr ne ↦
          let rest : lowered_first ns ≡ lowered_first (n ∷ ns) = omega (arith, ne) in
          let f = lowered-found ns (omega (arith, h, rest)) in
          record { at = suc f.at; there = omega (arith, f.there); is = λ d. f.is d ∙ rest }
    ]

-- what a node lowered
lowered-none : (n : Node) → n.moved ≡ 0 → lowered_by n ≡ 64
lowered-none n e = ap (λ (b : Bool). cond b 64 (2 * (31 - n.depth) + cond (eqb n.took 0) 1 0))
    (eq-eqb n.moved 0 e)

lowered-some : (n : Node) → (n.moved ≡ 0 → ⊥)
    → lowered_by n ≡ 2 * (31 - n.depth) + cond (eqb n.took 0) 1 0
lowered-some n ne = ap (λ (b : Bool). cond b 64 (2 * (31 - n.depth) + cond (eqb n.took 0) 1 0))
    (ne_eqb n.moved 0 ne)

lowered-pending : (n : Node) → (n.moved ≡ 0 → ⊥) → n.took ≡ 0
    → lowered_by n ≡ 2 * (31 - n.depth) + 1
lowered-pending n ne e = lowered-some n ne
    ∙ ap (λ (b : Bool). 2 * (31 - n.depth) + cond b 1 0) (eq-eqb n.took 0 e)

lowered-waiting : (n : Node) → (n.moved ≡ 0 → ⊥) → (n.took ≡ 0 → ⊥)
    → lowered_by n ≡ 2 * (31 - n.depth) + 0
lowered-waiting n ne e = lowered-some n ne
    ∙ ap (λ (b : Bool). 2 * (31 - n.depth) + cond b 1 0) (ne_eqb n.took 0 e)

-- a node that moved something lowered a number of its depth
lowered-within : (n : Node) → (n.moved ≡ 0 → ⊥)
    → (2 * (31 - n.depth) ≤ lowered_by n) × (lowered_by n ≤ 2 * (31 - n.depth) + 1)
lowered-within n ne =
    elim (place n.took 0) [
      | inl e ↦ (
        omega (arith, lowered-pending n ne e),
        omega (arith, lowered-pending n ne e),
      )
      | inr e ↦ (
        omega (arith, lowered-waiting n ne e),
        omega (arith, lowered-waiting n ne e),
      )
    ]

none-moved : (ns : List Node) → ((k : ℕ) (d : Node) → k < length ns → (get_or ns k d).moved ≡ 0)
    → sum_by (λ (n : Node). n.moved) ns ≡ 0
none-moved [] none = refl
none-moved (n ∷ ns) none = omega (
  arith,
  sum_by-cons (λ (x : Node). x.moved) n ns,
  none 0 n (omega arith),
  none-moved ns (λ k d h. none (suc k) d (omega (arith, h))),
)

-- ---- a node between two rounds

pub looks-went : (a b : Node) → NodeLooks a b → Went a b 0 0
looks-went a b l = record {
  depth = l.depth;
  count = l.count;
  child = λ i e h. (l.ports i e h).child;
  takes =
      let same = sum-same (λ (p : Port). length (taken p.inlet)) a.ports.items b.ports.items l.count
      (λ i e h. ap length (l.ports i e h).taken) in
      omega (arith, same);
  puts = omega (arith, ap length l.sent);
  kept = λ e. omega (arith, ap (λ v. length v.items) l.pending);
}

turned-went : (a b : Node) (put : ℕ) → NodeMoves a b → (t : Turned a b) → put ≡ t.put
    → Went a b (total_ready a.ports.items) put
turned-went a b put m t same = record {
  depth = m.depth;
  count = m.count;
  child = λ i e h. (m.ports i e h).child;
  takes = sum-rises (λ (p : Port). length (taken p.inlet)) (λ (p : Port). ready p.inlet)
      a.ports.items b.ports.items m.count
      (λ i e h. port-took-all (get_or a.ports.items i e) (get_or b.ports.items i e)
      (m.ports i e h)
      (sum-zero (λ (p : Port). ready p.inlet) b.ports.items t.drained i e
      (omega (arith, h, m.count))));
  puts = omega (arith, t.sent, same);
  kept = λ e. omega (arith, t.kept e, same);
}

went-looks : (a b c : Node) (took put : ℕ) → Went a b took put → Went b c 0 0 → Went a c took put
went-looks a b c took put w l = record {
  depth = l.depth ∙ w.depth;
  count = l.count ∙ w.count;
  child = λ i e h. l.child i e (omega (arith, h, w.count)) ∙ w.child i e h;
  takes = omega (arith, w.takes, l.takes);
  puts = omega (arith, w.puts, l.puts);
  kept = λ e. omega (arith, w.kept e, l.kept refl);
}

looks-then-went : (a b c : Node) (took put : ℕ) → Went a b 0 0 → Went b c took put
    → Went a c took put
looks-then-went a b c took put l w = record {
  depth = w.depth ∙ l.depth;
  count = w.count ∙ l.count;
  child = λ i e h. w.child i e (omega (arith, h, l.count)) ∙ l.child i e h;
  takes = omega (arith, w.takes, l.takes);
  puts = omega (arith, w.puts, l.puts);
  kept = λ e. omega (arith, w.kept e, l.kept refl);
}

-- ---- a round

module _ (b0 b1 b2 b3 b4 : PlanBox) (sound : IsSound b0) (sound' : IsSound b4)
    (top : TopLooks b0 b1)
    (links : SettlesPorts b1.nodes.items b2.nodes.items (length b1.nodes.items) 0)
    (turned : AllTurned b2.nodes.items b3.nodes.items) (top' : TopLooks b3 b4) (moved : ℕ)
    (total : moved ≡ min (sum_by (λ n. n.moved) b3.nodes.items) (2 ^ 64 - 1)) where
  abbrev first : Node
  first = some-node b0.nodes.items (omega (arith, sound.root_is))

  abbrev took : ℕ → ℕ
  took k = total_ready (get_or b2.nodes.items k first).ports.items

  abbrev put : ℕ → ℕ
  put k = length (sent (get_or b3.nodes.items k first).outlet)
      - length (sent (get_or b2.nodes.items k first).outlet)

  count2 : length b2.nodes.items ≡ length b0.nodes.items
  count2 = links.count ∙ top.count

  count3 : length b3.nodes.items ≡ length b0.nodes.items
  count3 = turned.count ∙ count2

  count4 : length b4.nodes.items ≡ length b0.nodes.items
  count4 = top'.count ∙ count3

  each : (k : ℕ) (d : Node) → k < length b0.nodes.items
      → Turned (get_or b2.nodes.items k d) (get_or b3.nodes.items k d)
  each k d h = (turned.turned k d (omega (arith, h, count2))).turned
      (turned.going k d (omega (arith, h, count3)))

  went-first : (k : ℕ) → k < length b0.nodes.items
      → Went (get_or b0.nodes.items k first) (get_or b4.nodes.items k first) (took k) (put k)
  went-first k h =
      let n0 : Node = get_or b0.nodes.items k first in
      let n1 : Node = get_or b1.nodes.items k first in
      let n2 : Node = get_or b2.nodes.items k first in
      let n3 : Node = get_or b3.nodes.items k first in
      let n4 : Node = get_or b4.nodes.items k first in
      let h1 : k < length b1.nodes.items = omega (arith, h, top.count) in
      let h2 : k < length b2.nodes.items = omega (arith, h, count2) in
      let h3 : k < length b3.nodes.items = omega (arith, h, count3) in
      let t = each k first h in
      let same : put k ≡ t.put = omega (arith, t.sent) in
      went-looks n0 n3 n4 (took k) (put k)
      (looks-then-went n0 n2 n3 (took k) (put k)
      (went-looks n0 n1 n2 0 0 (looks-went n0 n1 (top.looks k first h))
      (looks-went n1 n2 (links.looks k first h1)))
      (turned-went n2 n3 (put k) (turned.turned k first h2).moves t same))
      (looks-went n3 n4 (top'.looks k first h3))

  went : (k : ℕ) (d : Node) → k < length b0.nodes.items
      → Went (get_or b0.nodes.items k d) (get_or b4.nodes.items k d) (took k) (put k)
  went k d h =
      subst (λ (n : Node). Went n (get_or b4.nodes.items k d) (took k) (put k))
      (get-any b0.nodes.items k first d h)
      (subst (λ (n : Node). Went (get_or b0.nodes.items k first) n (took k) (put k))
      (get-any b4.nodes.items k first d (omega (arith, h, count4))) (went-first k h))

  -- what a node says that it did, by its depth before the round
  record Said (k : ℕ) : Type 0 where
    depth : (d : Node) → (get_or b3.nodes.items k first).depth ≡ (get_or b0.nodes.items k d).depth
    took_is : (get_or b3.nodes.items k first).took ≡ took k
    moved_is : (get_or b3.nodes.items k first).moved ≡ min (took k + put k) (2 ^ 64 - 1)

  said : (k : ℕ) → k < length b0.nodes.items → Said k
  said k h =
      let t = each k first h in
      let h1 : k < length b1.nodes.items = omega (arith, h, top.count) in
      let h2 : k < length b2.nodes.items = omega (arith, h, count2) in
      record {
        depth = λ d. (turned.turned k first h2).moves.depth ∙ (links.looks k first h1).depth
            ∙ (top.looks k first h).depth
            ∙ ap (λ (n : Node). n.depth) (get-any b0.nodes.items k first d h);
        took_is = t.took;
        moved_is = omega (arith, t.moved, t.sent);
      }

  -- a node that says that it moved nothing
  none-by : (k : ℕ) → k < length b0.nodes.items → (get_or b3.nodes.items k first).moved ≡ 0
      → (took k ≡ 0) × (put k ≡ 0)
  none-by k h e = (omega (arith, (said k h).moved_is, e), omega (arith, (said k h).moved_is, e))

  module _ (some : 0 < moved) where
    first-small : lowered_first b3.nodes.items < 64
    first-small =
        elim (cases_lt (lowered_first b3.nodes.items) 64) [
          | inl h ↦ h
          | inr h ↦
              let none = none-moved b3.nodes.items (λ k d l.
              elim (place (get_or b3.nodes.items k d).moved 0) [
                | inl e ↦ e
                | inr ne ↦ absurd (omega (
                  arith,
                  h,
                  lowered-least b3.nodes.items k d l,
                  (lowered-within (get_or b3.nodes.items k d) ne).1,
                ))
              ]) in
              absurd (omega (arith, some, total, none))
        ]

    -- the number at the place fell
    pub round-falls : FallsAt (backlog_of b0.nodes.items) (backlog_of b4.nodes.items)
        (lowered_first b3.nodes.items)
    round-falls =
        let f = lowered-found b3.nodes.items first-small in
        let there : f.at < length b0.nodes.items = omega (arith, f.there, count3) in
        let n : Node = get_or b3.nodes.items f.at first in
        let s = said f.at there in
        let is = f.is first in
        let moved-some : n.moved ≡ 0 → ⊥ = λ e. omega (arith, lowered-none n e, is, first-small) in
        let low = lowered-within n moved-some in
        let shallow : n.depth ≤ 31 =
        omega (arith, s.depth first, sound.shallow f.at first there) in
        let still : (k : ℕ) (d : Node) → k < length b0.nodes.items
        → n.depth < (get_or b0.nodes.items k d).depth → (took k ≡ 0) × (put k ≡ 0) =
        λ k d h deep.
        let m : Node = get_or b3.nodes.items k first in
        elim (place m.moved 0) [
          | inl e ↦ none-by k h e
          | inr ne ↦ absurd (omega (
            arith,
            deep,
            (said k h).depth d,
            sound.shallow k d h,
            (lowered-within m ne).1,
            lowered-least b3.nodes.items k first (omega (arith, h, count3)),
            is,
            low.0,
          ))
        ] in
        elim (place n.took 0) [
          | inl e ↦
              let at-place : 2 * (31 - n.depth) + 1 ≡ lowered_first b3.nodes.items =
              omega (arith, is, lowered-pending n moved-some e) in
              subst (FallsAt (backlog_of b0.nodes.items) (backlog_of b4.nodes.items)) at-place
              (falls-pending b0.nodes.items b4.nodes.items took put count4 went sound.linked
              sound'.linked n.depth shallow still f.at there (λ d. sym (s.depth d))
              (λ k d h at.
              let m : Node = get_or b3.nodes.items k first in
              elim (place m.took 0) [
                | inl z ↦ omega (arith, (said k h).took_is, z)
                | inr nz ↦ elim (place m.moved 0) [
                  | inl y ↦ (none-by k h y).0
                  | inr ny ↦ absurd (omega (
                    arith,
                    lowered-waiting m ny nz,
                    lowered-least b3.nodes.items k first (omega (arith, h, count3)),
                    (said k h).depth d,
                    at,
                    at-place,
                  ))
                ]
              ])
              (omega (arith, s.moved_is, s.took_is, e, moved-some)))
          | inr ne ↦
              let at-place : 2 * (31 - n.depth) ≡ lowered_first b3.nodes.items =
              omega (arith, is, lowered-waiting n moved-some ne) in
              subst (FallsAt (backlog_of b0.nodes.items) (backlog_of b4.nodes.items)) at-place
              (falls-waiting b0.nodes.items b4.nodes.items took put count4 went sound.linked
              sound'.linked n.depth shallow still f.at there (λ d. sym (s.depth d))
              (omega (arith, s.took_is, ne)))
        ]
