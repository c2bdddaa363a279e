-- A plan at work: which nodes it has, and how they are linked. Children stand before their parents
-- in the list of nodes, and the root last.
use Rattle.std.specs.Prelude.{◌≡◌, ℕ, ◌+◌, ◌<◌, ◌≤◌, ◌⊎◌, List, [], ◌∷◌, ◌++◌, length, get_or, Some}
use Rattle.std.specs.Prelude.{None}
use Rattle.pipes_stream.specs.declared.message.Message.{Message}
use Rattle.pipes_stream.specs.Lawful.{Lists, Task}
use Rattle.pipes_link.specs.declared.outlet.Outlet.{Outlet}
use Rattle.pipes_link.specs.declared.inlet.Inlet.{Inlet}
use Rattle.pipes_link.specs.Ends.{sent, spare, room_of, taken, known, ready, AreEnds}
use Rattle.pipes_node.specs.declared.port.Port.{Port}
use Rattle.pipes_box.specs.declared.leaf.Leaf.{Leaf as PlanLeaf}
use Rattle.pipes_node.specs.declared.node.Node.{Node}
use Rattle.pipes_box.specs.Shapes.{Shape, Leaf, One, Two, node_count, leaf_count, gives_of}
use Rattle.pipes_node.specs.Nodes.{IsCounted, NodeLooks, task_in}

-- the two ends are of one link, and what was taken there and is known to wait is a prefix of what
-- was put in
pub record EndsHold (outlet : Outlet Message) (inlet : Inlet Message) : Type 0 where
  pub ends : AreEnds outlet inlet
  pub rest : List Message
  pub in_order : sent outlet ≡ (taken inlet ++ known inlet) ++ rest

abbrev pub LinkHolds : Outlet Message → Port → Type 0
LinkHolds outlet p = EndsHold outlet p.inlet

-- each port's link holds, from the outlet of an earlier node, which is one deeper
pub record IsLinked (nodes : List Node) : Type 0 where
  pub counted : (k : ℕ) (d : Node) → k < length nodes → IsCounted (get_or nodes k d)
  pub earlier : (k : ℕ) (d : Node) (i : ℕ) (e : Port) → k < length nodes
      → i < length (get_or nodes k d).ports.items
      → (get_or (get_or nodes k d).ports.items i e).child < k
  pub deeper : (k : ℕ) (d : Node) (i : ℕ) (e : Port) → k < length nodes
      → i < length (get_or nodes k d).ports.items
      → (get_or nodes (get_or (get_or nodes k d).ports.items i e).child d).depth
      ≡ (get_or nodes k d).depth + 1
  pub links : (k : ℕ) (d : Node) (i : ℕ) (e : Port) → k < length nodes
      → i < length (get_or nodes k d).ports.items
      → LinkHolds (get_or nodes (get_or (get_or nodes k d).ports.items i e).child d).outlet
      (get_or (get_or nodes k d).ports.items i e)

-- the place of the plan's root, its nodes beginning at i
abbrev pub root_of : Shape → ℕ → ℕ
root_of (Leaf source kinds) i = i
root_of (One task a) i = i + node_count a
root_of (Two task a b) i = i + (node_count a + node_count b)

abbrev pub ChildAt : Node → ℕ → ℕ → Type 0
ChildAt n port child = (e : Port) → (get_or n.ports.items port e).child ≡ child

-- the nodes from i on are those of the plan, one for each of its nodes, with its task and its
-- children
abbrev pub IsWired : (ℕ → Node) → Shape → ℕ → Type 0
IsWired node (Leaf source kinds) i = task_in (node i).operator ≡ None
IsWired node (One task a) i = IsWired node a i
    × (task_in (node (i + node_count a)).operator ≡ Some task)
    × ChildAt (node (i + node_count a)) 0 (root_of a i)
IsWired node (Two task a b) i =
    IsWired node a i × IsWired node b (i + node_count a)
    × (task_in (node (i + (node_count a + node_count b))).operator ≡ Some task)
    × ChildAt (node (i + (node_count a + node_count b))) 0 (root_of a i)
    × ChildAt (node (i + (node_count a + node_count b))) 1 (root_of b (i + node_count a))

-- a node of this number at this depth
pub record IsSpot (n : Node) (number depth : ℕ) : Type 0 where
  pub number_is : n.number ≡ number
  pub depth_is : n.depth ≡ depth

-- The nodes from i on are those of the plan: numbered in preorder from `number` on, and each at its
-- depth, the root at `depth`.
abbrev pub IsNumbered : (ℕ → Node) → Shape → ℕ → ℕ → ℕ → Type 0
IsNumbered node (Leaf source kinds) i number depth = IsSpot (node i) number depth
IsNumbered node (One task a) i number depth = IsNumbered node a i (number + 1) (depth + 1)
    × IsSpot (node (i + node_count a)) number depth
IsNumbered node (Two task a b) i number depth = IsNumbered node a i (number + 1) (depth + 1)
    × IsNumbered node b (i + node_count a) (number + 1 + node_count a) (depth + 1)
    × IsSpot (node (i + (node_count a + node_count b))) number depth

-- what was given at the leaves, which are numbered from n on, is what was put into the outlets of
-- their nodes
abbrev pub LeavesGave : (ℕ → Node) → Shape → ℕ → ℕ → Lists → Type 0
LeavesGave node (Leaf source kinds) i n given = given n ≡ sent (node i).outlet
LeavesGave node (One task a) i n given = LeavesGave node a i n given
LeavesGave node (Two task a b) i n given = LeavesGave node a i n given
    × LeavesGave node b (i + node_count a) (n + leaf_count a) given

-- both ends know each place and each message of the link
pub record SettledLink (outlet : Outlet Message) (p : Port) : Type 0 where
  pub waits : taken p.inlet ++ known p.inlet ≡ sent outlet
  pub all_known : room_of outlet ≤ spare outlet + ready p.inlet

-- one port's link was settled
pub record PortSettled (old new : List Node) (parent port : ℕ) : Type 0 where
  pub count : length new ≡ length old
  pub looks : (k : ℕ) (d : Node) → k < length old → NodeLooks (get_or old k d) (get_or new k d)
  pub others : (k : ℕ) (d : Node) (i : ℕ) (e : Port) → k < length old
      → i < length (get_or old k d).ports.items → (k ≡ parent → i ≡ port → ⊥)
      → get_or (get_or new k d).ports.items i e ≡ get_or (get_or old k d).ports.items i e
  pub settled : (d : Node) (e : Port)
      → SettledLink (get_or new (get_or (get_or old parent d).ports.items port e).child d).outlet
      (get_or (get_or new parent d).ports.items port e)

-- the links of the ports before this one were settled: those of earlier nodes, and this node's
-- earlier ports
pub record SettlesPorts (old new : List Node) (parent port : ℕ) : Type 0 where
  pub count : length new ≡ length old
  pub looks : (k : ℕ) (d : Node) → k < length old → NodeLooks (get_or old k d) (get_or new k d)
  pub linked : IsLinked new
  pub settled : (k : ℕ) (d : Node) (i : ℕ) (e : Port) → k < length new
      → i < length (get_or new k d).ports.items → (k < parent) ⊎ ((k ≡ parent) × (i < port))
      → SettledLink (get_or new (get_or (get_or new k d).ports.items i e).child d).outlet
      (get_or (get_or new k d).ports.items i e)

-- the leaves of the plan whose nodes begin at i, in preorder
abbrev pub leaves_of : Shape → ℕ → List PlanLeaf
leaves_of (Leaf source kinds) i = record { node = i; source = source } ∷ []
leaves_of (One task a) i = leaves_of a i
leaves_of (Two task a b) i = leaves_of a i ++ leaves_of b (i + node_count a)
