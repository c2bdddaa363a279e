-- How much a box has before it, the deepest nodes first, and how a round lowers it.
use Rattle.std.specs.Prelude.{◌≡◌, ℕ, ◌+◌, ◌-◌, ◌*◌, ◌/◌, ◌%◌, ◌<◌, min, cond, eqb, List, [], ◌∷◌}
use Rattle.std.specs.Prelude.{length, get_or}
use Rattle.std.specs.List.{sum_by}
use Rattle.pipes_link.specs.Ends.{sent, taken}
use Rattle.pipes_node.specs.declared.node.Node.{Node}
use Rattle.pipes_box.specs.declared.plan_box.PlanBox.{PlanBox}
use Rattle.pipes_node.specs.Nodes.{total_ready, lowered_by, pends_with}

-- how many messages wait for the node: those that its children put and it did not take yet
abbrev pub waits_for : List Node → Node → ℕ
waits_for nodes n =
    sum_by (λ p. length (sent (get_or nodes p.child n).outlet) - length (taken p.inlet))
    n.ports.items

-- a number of each node, summed up over the nodes at this depth
abbrev pub sum_at : ℕ → (Node → ℕ) → List Node → ℕ
sum_at depth f nodes = sum_by (λ n. cond (eqb n.depth depth) (f n) 0) nodes

abbrev pub backlog_of : List Node → ℕ → ℕ
backlog_of nodes place =
    cond (eqb (place % 2) 0) (sum_at (31 - place / 2) (waits_for nodes) nodes)
    (sum_at (31 - place / 2) pends_with nodes)

-- The backlog of a box has 64 numbers, whose places are counted from 0. For j from 0 to 31, place
-- 2 j is how many messages wait for the nodes at depth 31 - j, and place 2 j + 1 is how many are
-- pending with these nodes. The root has depth 0.
abbrev pub backlog : PlanBox → ℕ → ℕ
backlog b place = backlog_of b.nodes.items place

-- the same, by the messages that the nodes know to wait
abbrev pub known_backlog : List Node → ℕ → ℕ
known_backlog nodes place =
    cond (eqb (place % 2) 0) (sum_at (31 - place / 2) (λ n. total_ready n.ports.items) nodes)
    (sum_at (31 - place / 2) pends_with nodes)

-- of these numbers the one at the place fell, and those before it are as they were
pub record FallsAt (old new : ℕ → ℕ) (place : ℕ) : Type 0 where
  pub in_range : place < 64
  pub lower : new place < old place
  pub same : (j : ℕ) → j < place → new j ≡ old j

-- one of them fell, and those before it are as they were
abbrev pub Falls : (ℕ → ℕ) → (ℕ → ℕ) → Type 0
Falls old new = (place : ℕ) × FallsAt old new place

-- the place of the first number that the last turns of these nodes lowered
abbrev pub lowered_first : List Node → ℕ
lowered_first [] = 64
lowered_first (n ∷ ns) = min (lowered_by n) (lowered_first ns)
