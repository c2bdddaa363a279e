-- How what moved in a round lowers the backlog.
use Rattle.std.proofs.Common.{◌≡◌, ℕ, zero, suc, ◌+◌, ◌-◌, ◌*◌, ◌/◌, ◌%◌, ◌≤◌, ◌<◌, Bool, true}
use Rattle.std.proofs.Common.{false, cond, eqb, List, [], ◌∷◌, ◌++◌, length, get_or, refl, sym, ◌∙◌}
use Rattle.std.proofs.Common.{ap, subst, arith, eq-eqb, length-append, inl, inr, ◌⊎◌}
use Rattle.std.specs.List.{sum_by}
use Rattle.std.proofs.lemmas.Bool.{cases_lt, ne_eqb}
use Rattle.std.proofs.lemmas.List.Sums.{sum_by-cons}
use Rattle.pipes_link.specs.Ends.{sent, taken, known}
use Rattle.pipes_node.specs.declared.port.Port.{Port}
use Rattle.pipes_node.specs.declared.node.Node.{Node}
use Rattle.pipes_box.specs.Networks.{IsLinked}
use Rattle.pipes_box.specs.Backlog.{waits_for, sum_at, backlog_of, FallsAt}
use Rattle.pipes_node.specs.Nodes.{pends_with}
use Rattle.pipes_node.proofs.NodeSteps.{place, get-any}

-- ---- sums of two lists, item by item

-- with what was added to each number, the sums are the same
sum-both : {X : Type 0} (f t g u : X → ℕ) (xs ys : List X) → length ys ≡ length xs
    → ((k : ℕ) (d : X) → k < length xs
    → f (get_or ys k d) + t (get_or ys k d) ≡ g (get_or xs k d) + u (get_or xs k d))
    → sum_by f ys + sum_by t ys ≡ sum_by g xs + sum_by u xs
sum-both f t g u [] [] count each = refl
sum-both f t g u [] (y ∷ ys) count each = absurd (omega (arith, count))
sum-both f t g u (x ∷ xs) [] count each = absurd (omega (arith, count))
sum-both f t g u (x ∷ xs) (y ∷ ys) count each =
    omega (
      arith,
      sum_by-cons f y ys,
      sum_by-cons t y ys,
      sum_by-cons g x xs,
      sum_by-cons u x xs,
      each 0 x (omega arith),
      sum-both f t g u xs ys (omega (arith, count)) (λ k d h. each (suc k) d (omega (arith, h))),
    )

pub sum-alike : {X : Type 0} (f g : X → ℕ) (xs ys : List X) → length ys ≡ length xs
    → ((k : ℕ) (d : X) → k < length xs → f (get_or ys k d) ≡ g (get_or xs k d))
    → sum_by f ys ≡ sum_by g xs
sum-alike f g [] [] count each = refl
sum-alike f g [] (y ∷ ys) count each = absurd (omega (arith, count))
sum-alike f g (x ∷ xs) [] count each = absurd (omega (arith, count))
sum-alike f g (x ∷ xs) (y ∷ ys) count each =
    omega (
      arith,
      sum_by-cons f y ys,
      sum_by-cons g x xs,
      each 0 x (omega arith),
      sum-alike f g xs ys (omega (arith, count)) (λ k d h. each (suc k) d (omega (arith, h))),
    )

sum-most : {X : Type 0} (f g : X → ℕ) (xs ys : List X) → length ys ≡ length xs
    → ((k : ℕ) (d : X) → k < length xs → f (get_or ys k d) ≤ g (get_or xs k d))
    → sum_by f ys ≤ sum_by g xs
sum-most f g [] [] count each = omega arith
sum-most f g [] (y ∷ ys) count each = absurd (omega (arith, count))
sum-most f g (x ∷ xs) [] count each = absurd (omega (arith, count))
sum-most f g (x ∷ xs) (y ∷ ys) count each =
    omega (
      arith,
      sum_by-cons f y ys,
      sum_by-cons g x xs,
      each 0 x (omega arith),
      sum-most f g xs ys (omega (arith, count)) (λ k d h. each (suc k) d (omega (arith, h))),
    )

-- one number is lower, and none is higher
sum-lower : {X : Type 0} (f g : X → ℕ) (xs ys : List X) (j : ℕ) → length ys ≡ length xs
    → ((k : ℕ) (d : X) → k < length xs → f (get_or ys k d) ≤ g (get_or xs k d))
    → j < length xs → ((d : X) → f (get_or ys j d) < g (get_or xs j d)) → sum_by f ys < sum_by g xs
sum-lower f g [] ys j count each there lower = absurd (omega (arith, there))
sum-lower f g (x ∷ xs) [] j count each there lower = absurd (omega (arith, count))
sum-lower f g (x ∷ xs) (y ∷ ys) zero count each there lower =
    omega (
      arith,
      sum_by-cons f y ys,
      sum_by-cons g x xs,
      lower x,
      sum-most f g xs ys (omega (arith, count)) (λ k d h. each (suc k) d (omega (arith, h))),
    )
sum-lower f g (x ∷ xs) (y ∷ ys) (suc j) count each there lower =
    omega (
      arith,
      sum_by-cons f y ys,
      sum_by-cons g x xs,
      each 0 x (omega arith),
      sum-lower f g xs ys j (omega (arith, count)) (λ k d h. each (suc k) d (omega (arith, h)))
          (omega (arith, there)) lower,
    )

-- ---- a node between two rounds

-- The node took and put so many messages: what is pending fell by what it put, where it took
-- nothing.
pub record Went (a b : Node) (took put : ℕ) : Type 0 where
  pub depth : b.depth ≡ a.depth
  pub count : length b.ports.items ≡ length a.ports.items
  pub child : (i : ℕ) (e : Port) → i < length a.ports.items
      → (get_or b.ports.items i e).child ≡ (get_or a.ports.items i e).child
  pub takes : sum_by (λ p. length (taken p.inlet)) b.ports.items
      ≡ sum_by (λ p. length (taken p.inlet)) a.ports.items + took
  pub puts : length (sent b.outlet) ≡ length (sent a.outlet) + put
  pub kept : took ≡ 0 → length b.pending.items + put ≡ length a.pending.items

-- what a node of this depth counts for
here : (n : Node) (depth x : ℕ) → n.depth ≡ depth → cond (eqb n.depth depth) x 0 ≡ x
here n depth x e = ap (λ (b : Bool). cond b x 0) (eq-eqb n.depth depth e)

elsewhere : (n : Node) (depth x : ℕ) → (n.depth ≡ depth → ⊥) → cond (eqb n.depth depth) x 0 ≡ 0
elsewhere n depth x ne = ap (λ (b : Bool). cond b x 0) (ne_eqb n.depth depth ne)

-- two nodes of one depth
at-most : (a b : Node) (depth x y : ℕ) → b.depth ≡ a.depth → (a.depth ≡ depth → x ≤ y)
    → cond (eqb b.depth depth) x 0 ≤ cond (eqb a.depth depth) y 0
at-most a b depth x y same h =
    elim (place a.depth depth) [
      | inl e ↦ omega (arith, here b depth x (same ∙ e), here a depth y e, h e)
      | inr n ↦ omega (arith, elsewhere b depth x (λ e. n (sym same ∙ e)), elsewhere a depth y n)
    ]

alike : (a b : Node) (depth x y : ℕ) → b.depth ≡ a.depth → (a.depth ≡ depth → x ≡ y)
    → cond (eqb b.depth depth) x 0 ≡ cond (eqb a.depth depth) y 0
alike a b depth x y same h =
    elim (place a.depth depth) [
      | inl e ↦ here b depth x (same ∙ e) ∙ h e ∙ sym (here a depth y e)
      | inr n ↦ elsewhere b depth x (λ e. n (sym same ∙ e)) ∙ sym (elsewhere a depth y n)
    ]

-- a link has no more taken than put
taken-within : (ns : List Node) → IsLinked ns → (k : ℕ) (d : Node) (i : ℕ) (e : Port)
    → k < length ns → i < length (get_or ns k d).ports.items
    → length (taken (get_or (get_or ns k d).ports.items i e).inlet)
    ≤ length (sent (get_or ns (get_or (get_or ns k d).ports.items i e).child d).outlet)
taken-within ns linked k d i e h l =
    let link = linked.links k d i e h l in
    let p : Port = get_or (get_or ns k d).ports.items i e in
    omega (
      arith,
      ap length link.in_order,
      length-append (taken p.inlet ++ known p.inlet) link.rest,
      length-append (taken p.inlet) (known p.inlet),
    )

-- ---- the numbers

even-number : (ns : List Node) (j : ℕ) → j % 2 ≡ 0
    → backlog_of ns j ≡ sum_at (31 - j / 2) (waits_for ns) ns
even-number ns j e = ap (λ (b : Bool). cond b (sum_at (31 - j / 2) (waits_for ns) ns)
    (sum_at (31 - j / 2) pends_with ns)) (eq-eqb (j % 2) 0 e)

odd-number : (ns : List Node) (j : ℕ) → (j % 2 ≡ 0 → ⊥)
    → backlog_of ns j ≡ sum_at (31 - j / 2) pends_with ns
odd-number ns j n = ap (λ (b : Bool). cond b (sum_at (31 - j / 2) (waits_for ns) ns)
    (sum_at (31 - j / 2) pends_with ns)) (ne_eqb (j % 2) 0 n)

module _ (xs ys : List Node) (took put : ℕ → ℕ) (count : length ys ≡ length xs)
    (went : (k : ℕ) (d : Node) → k < length xs
    → Went (get_or xs k d) (get_or ys k d) (took k) (put k))
    (linked : IsLinked xs) (linked' : IsLinked ys) where
  -- the messages that wait at one port, with those that it ever took
  port-waits : (k : ℕ) (d x y : Node) (i : ℕ) (e : Port) → k < length xs
      → i < length (get_or xs k d).ports.items
      → ((c : ℕ) → (get_or xs c d).depth ≡ (get_or xs k d).depth + 1 → c < length xs → put c ≡ 0)
      → length (sent (get_or ys (get_or (get_or ys k d).ports.items i e).child y).outlet)
      - length (taken (get_or (get_or ys k d).ports.items i e).inlet)
      + length (taken (get_or (get_or ys k d).ports.items i e).inlet)
      ≡ length (sent (get_or xs (get_or (get_or xs k d).ports.items i e).child x).outlet)
      - length (taken (get_or (get_or xs k d).ports.items i e).inlet)
      + length (taken (get_or (get_or xs k d).ports.items i e).inlet)
  port-waits k d x y i e h l idle =
      let a : Node = get_or xs k d in
      let b : Node = get_or ys k d in
      let w = went k d h in
      let p : Port = get_or a.ports.items i e in
      let q : Port = get_or b.ports.items i e in
      let c : ℕ = p.child in
      let h' : k < length ys = omega (arith, h, count) in
      let l' : i < length b.ports.items = omega (arith, l, w.count) in
      let small : c < length xs = omega (arith, linked.earlier k d i e h l, h) in
      let small' : c < length ys = omega (arith, small, count) in
      let same : q.child ≡ c = w.child i e l in
      let none : put c ≡ 0 = idle c (linked.deeper k d i e h l) small in
      let sents : length (sent (get_or ys c d).outlet) ≡ length (sent (get_or xs c d).outlet) =
      omega (arith, (went c d small).puts, none) in
      let at-y : length (sent (get_or ys q.child y).outlet) ≡ length (sent (get_or ys c d).outlet) =
      ap (λ (j : ℕ). length (sent (get_or ys j y).outlet)) same
      ∙ ap (λ (n : Node). length (sent n.outlet)) (get-any ys c y d small') in
      let at-d : length (sent (get_or ys q.child d).outlet) ≡ length (sent (get_or ys c d).outlet) =
      ap (λ (j : ℕ). length (sent (get_or ys j d).outlet)) same in
      let at-x : length (sent (get_or xs c x).outlet) ≡ length (sent (get_or xs c d).outlet) =
      ap (λ (n : Node). length (sent n.outlet)) (get-any xs c x d small) in
      let within = taken-within xs linked k d i e h l in
      let within' = taken-within ys linked' k d i e h' l' in
      omega (arith, sents, at-y, at-d, at-x, within, within')

  -- those that wait for a node fall by what it took, where its children put nothing
  node-waits : (k : ℕ) (d : Node) → k < length xs
      → ((c : ℕ) → (get_or xs c d).depth ≡ (get_or xs k d).depth + 1 → c < length xs → put c ≡ 0)
      → waits_for ys (get_or ys k d) + took k ≡ waits_for xs (get_or xs k d)
  node-waits k d h idle =
      let a : Node = get_or xs k d in
      let b : Node = get_or ys k d in
      let w = went k d h in
      let both = sum-both
      (λ (p : Port). length (sent (get_or ys p.child b).outlet) - length (taken p.inlet))
      (λ (p : Port). length (taken p.inlet))
      (λ (p : Port). length (sent (get_or xs p.child a).outlet) - length (taken p.inlet))
      (λ (p : Port). length (taken p.inlet)) a.ports.items b.ports.items w.count
      (λ i e l. port-waits k d a b i e h l idle) in
      omega (arith, both, w.takes)

  module _ (depth : ℕ) (shallow : depth ≤ 31)
      (still : (k : ℕ) (d : Node) → k < length xs → depth < (get_or xs k d).depth
      → (took k ≡ 0) × (put k ≡ 0)) where
    -- no child of a node this deep or deeper put anything
    children-still : (k : ℕ) (d : Node) → depth ≤ (get_or xs k d).depth → (c : ℕ)
        → (get_or xs c d).depth ≡ (get_or xs k d).depth + 1 → c < length xs → put c ≡ 0
    children-still k d deep c e h = (still c d h (omega (arith, deep, e))).1

    waits-same : (at : ℕ) → depth ≤ at
        → ((k : ℕ) (d : Node) → k < length xs → (get_or xs k d).depth ≡ at → took k ≡ 0)
        → sum_at at (waits_for ys) ys ≡ sum_at at (waits_for xs) xs
    waits-same at deep none =
        sum-alike (λ (n : Node). cond (eqb n.depth at) (waits_for ys n) 0)
        (λ (n : Node). cond (eqb n.depth at) (waits_for xs n) 0) xs ys count
        (λ k d h. alike (get_or xs k d) (get_or ys k d) at (waits_for ys (get_or ys k d))
        (waits_for xs (get_or xs k d)) (went k d h).depth
        (λ e. omega (
          arith,
          none k d h e,
          node-waits k d h (children-still k d (omega (arith, deep, e))),
        )))

    pends-same : (at : ℕ) → depth < at → sum_at at pends_with ys ≡ sum_at at pends_with xs
    pends-same at deep =
        sum-alike (λ (n : Node). cond (eqb n.depth at) (pends_with n) 0)
        (λ (n : Node). cond (eqb n.depth at) (pends_with n) 0) xs ys count
        (λ k d h. alike (get_or xs k d) (get_or ys k d) at (pends_with (get_or ys k d))
        (pends_with (get_or xs k d)) (went k d h).depth
        (λ e. let none = still k d h (omega (arith, deep, e)) in
        omega (arith, (went k d h).kept none.0, none.1)))

    -- a node of this depth took something
    waits-lower : (j : ℕ) → j < length xs → ((d : Node) → (get_or xs j d).depth ≡ depth)
        → 0 < took j → sum_at depth (waits_for ys) ys < sum_at depth (waits_for xs) xs
    waits-lower j there at some =
        sum-lower (λ (n : Node). cond (eqb n.depth depth) (waits_for ys n) 0)
        (λ (n : Node). cond (eqb n.depth depth) (waits_for xs n) 0) xs ys j count
        (λ k d h. at-most (get_or xs k d) (get_or ys k d) depth (waits_for ys (get_or ys k d))
        (waits_for xs (get_or xs k d)) (went k d h).depth
        (λ e. omega (arith, node-waits k d h (children-still k d (omega (arith, e))))))
        there
        (λ d. omega (
          arith,
          some,
          node-waits j d there (children-still j d (omega (arith, at d))),
          here (get_or ys j d) depth (waits_for ys (get_or ys j d))
              ((went j d there).depth ∙ at d),
          here (get_or xs j d) depth (waits_for xs (get_or xs j d)) (at d),
        ))

    -- none of this depth took anything, and one put something
    pends-lower : (j : ℕ) → j < length xs → ((d : Node) → (get_or xs j d).depth ≡ depth)
        → ((k : ℕ) (d : Node) → k < length xs → (get_or xs k d).depth ≡ depth → took k ≡ 0)
        → 0 < put j → sum_at depth pends_with ys < sum_at depth pends_with xs
    pends-lower j there at none some =
        sum-lower (λ (n : Node). cond (eqb n.depth depth) (pends_with n) 0)
        (λ (n : Node). cond (eqb n.depth depth) (pends_with n) 0) xs ys j count
        (λ k d h. at-most (get_or xs k d) (get_or ys k d) depth (pends_with (get_or ys k d))
        (pends_with (get_or xs k d)) (went k d h).depth
        (λ e. omega (arith, (went k d h).kept (none k d h e))))
        there
        (λ d. omega (
          arith,
          some,
          (went j d there).kept (none j d there (at d)),
          here (get_or ys j d) depth (pends_with (get_or ys j d)) ((went j d there).depth ∙ at d),
          here (get_or xs j d) depth (pends_with (get_or xs j d)) (at d),
        ))

    -- those of deeper nodes, and of what waits for nodes this deep where none of them took anything
    number-same : (j : ℕ) → j < 64 → (depth < 31 - j / 2)
        ⊎ ((depth ≡ 31 - j / 2) × (j % 2 ≡ 0)
        × ((k : ℕ) (d : Node) → k < length xs → (get_or xs k d).depth ≡ depth → took k ≡ 0))
        → backlog_of ys j ≡ backlog_of xs j
    number-same j small (inl deep) =
        elim (place (j % 2) 0) [
          | inl e ↦ even-number ys j e ∙ waits-same (31 - j / 2) (omega (arith, deep))
              (λ k d h x. (still k d h (omega (arith, deep, x))).0) ∙ sym (even-number xs j e)
          | inr n ↦ odd-number ys j n ∙ pends-same (31 - j / 2) deep ∙ sym (odd-number xs j n)
        ]
    number-same j small (inr h) =
        even-number ys j h.1 ∙ waits-same (31 - j / 2) (omega (arith, h.0))
        (λ k d l x. h.2 k d l (x ∙ sym h.0)) ∙ sym (even-number xs j h.1)

    -- a node took something
    pub falls-waiting : (j : ℕ) → j < length xs → ((d : Node) → (get_or xs j d).depth ≡ depth)
        → 0 < took j → FallsAt (backlog_of xs) (backlog_of ys) (2 * (31 - depth))
    falls-waiting j there at some =
        let at-place : 31 - 2 * (31 - depth) / 2 ≡ depth = omega (arith, shallow) in
        let even : 2 * (31 - depth) % 2 ≡ 0 = omega arith in
        let lower = waits-lower j there at some in
        let old : backlog_of xs (2 * (31 - depth)) ≡ sum_at depth (waits_for xs) xs =
        even-number xs (2 * (31 - depth)) even
        ∙ ap (λ (z : ℕ). sum_at z (waits_for xs) xs) at-place in
        let new : backlog_of ys (2 * (31 - depth)) ≡ sum_at depth (waits_for ys) ys =
        even-number ys (2 * (31 - depth)) even
        ∙ ap (λ (z : ℕ). sum_at z (waits_for ys) ys) at-place in
        record {
          in_range = omega (arith, shallow);
          lower = omega (arith, lower, old, new);
          same = λ i h. number-same i (omega (arith, h)) (inl (omega (arith, h, shallow)));
        }

    -- none took anything, and a node put something
    pub falls-pending : (j : ℕ) → j < length xs → ((d : Node) → (get_or xs j d).depth ≡ depth)
        → ((k : ℕ) (d : Node) → k < length xs → (get_or xs k d).depth ≡ depth → took k ≡ 0)
        → 0 < put j → FallsAt (backlog_of xs) (backlog_of ys) (2 * (31 - depth) + 1)
    falls-pending j there at none some =
        let at-place : 31 - (2 * (31 - depth) + 1) / 2 ≡ depth = omega (arith, shallow) in
        let odd : (2 * (31 - depth) + 1) % 2 ≡ 0 → ⊥ = λ e. omega (arith, e) in
        let lower = pends-lower j there at none some in
        let old : backlog_of xs (2 * (31 - depth) + 1) ≡ sum_at depth pends_with xs =
        odd-number xs (2 * (31 - depth) + 1) odd
        ∙ ap (λ (z : ℕ). sum_at z pends_with xs) at-place in
        let new : backlog_of ys (2 * (31 - depth) + 1) ≡ sum_at depth pends_with ys =
        odd-number ys (2 * (31 - depth) + 1) odd
        ∙ ap (λ (z : ℕ). sum_at z pends_with ys) at-place in
        record {
          in_range = omega (arith, shallow);
          lower = omega (arith, lower, old, new);
          same = λ i h.
              elim (cases_lt i (2 * (31 - depth))) [
                | inl l ↦ number-same i (omega (arith, h)) (inl (omega (arith, l, shallow)))
                | inr l ↦
                    let is : i ≡ 2 * (31 - depth) = omega (arith, h, l) in
                    number-same i (omega (arith, h))
                    (inr (omega (arith, is, shallow), omega (arith, is), none))
              ];
        }

-- where nothing moved, each number stays
pub same-backlog : (xs ys : List Node) (count : length ys ≡ length xs)
    → ((k : ℕ) (d : Node) → k < length xs → Went (get_or xs k d) (get_or ys k d) 0 0)
    → IsLinked xs → IsLinked ys → (j : ℕ) → j < 64 → backlog_of ys j ≡ backlog_of xs j
same-backlog xs ys count went linked linked' j small =
    let none : ℕ → ℕ = λ k. 0 in
    let pends : (at : ℕ) → sum_at at pends_with ys ≡ sum_at at pends_with xs =
    λ at. sum-alike (λ (n : Node). cond (eqb n.depth at) (pends_with n) 0)
    (λ (n : Node). cond (eqb n.depth at) (pends_with n) 0) xs ys count
    (λ k d h. alike (get_or xs k d) (get_or ys k d) at (pends_with (get_or ys k d))
    (pends_with (get_or xs k d)) (went k d h).depth (λ e. omega (arith, (went k d h).kept refl))) in
    let waits : (at : ℕ) → sum_at at (waits_for ys) ys ≡ sum_at at (waits_for xs) xs =
    λ at. waits-same xs ys none none count went linked linked' 0 (omega arith)
    (λ k d h l. (refl, refl)) at (omega arith) (λ k d h e. refl) in
    elim (place (j % 2) 0) [
      | inl e ↦ even-number ys j e ∙ waits (31 - j / 2) ∙ sym (even-number xs j e)
      | inr n ↦ odd-number ys j n ∙ pends (31 - j / 2) ∙ sym (odd-number xs j n)
    ]
