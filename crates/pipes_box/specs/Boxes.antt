-- A box: a plan at work, with what was given at its leaves and what came out at its top.
use Rattle.std.specs.Prelude.{◌≡◌, ℕ, ◌+◌, ◌-◌, ◌^◌, ◌<◌, ◌≤◌, min, Bool, false, List, []}
use Rattle.std.specs.Prelude.{◌∷◌, ◌++◌, length, get_or}
use Rattle.std.specs.List.{sum_by}
use Rattle.pipes_tuple.specs.declared.value.Kind.{Kind}
use Rattle.pipes_stream.specs.declared.message.Message.{Message}
use Rattle.pipes_stream.specs.Lists.{run, start_of_list}
use Rattle.pipes_stream.specs.Lawful.{Lists, with_message}
use Rattle.pipes_link.specs.declared.inlet.Inlet.{Inlet}
use Rattle.pipes_link.specs.Ends.{sent, taken, spare}
use Rattle.pipes_plan.specs.declared.plan.Plan.{Plan}
use Rattle.pipes_box.specs.declared.leaf.Leaf.{Leaf}
use Rattle.pipes_node.specs.declared.port.Port.{Port}
use Rattle.pipes_node.specs.declared.node.Node.{Node}
use Rattle.pipes_box.specs.declared.plan_box.PlanBox.{PlanBox}
use Rattle.pipes_node.specs.Nodes.{NodeHolds, held_in}
use Rattle.pipes_box.specs.Shapes.{shape_of, node_count, GivenFits, IsProper}
use Rattle.pipes_box.specs.Networks.{EndsHold, IsLinked, IsWired, IsNumbered, LeavesGave}
use Rattle.pipes_box.specs.Networks.{leaves_of}

-- What holds of a box that was built, whatever was called on it since: its links are whole.
pub record IsSound (b : PlanBox) : Type 0 where
  pub linked : IsLinked b.nodes.items
  pub root : ℕ
  pub root_is : root + 1 ≡ length b.nodes.items
  pub top : (d : Node) → EndsHold (get_or b.nodes.items root d).outlet b.top
  pub leaves : (k : ℕ) (d : Leaf) → k < length b.leaves.items
      → (get_or b.leaves.items k d).node < length b.nodes.items
  pub shallow : (k : ℕ) (d : Node) → k < length b.nodes.items
      → (get_or b.nodes.items k d).depth ≤ 31
  pub ended_is : b.ended ≡ (run start_of_list (taken b.top)).ended
  -- memory was refused to no node, unless it was to the box
  pub going : b.failed ≡ false → (k : ℕ) (d : Node) → k < length b.nodes.items
      → (get_or b.nodes.items k d).failed ≡ false

-- how many elements its operators keep
abbrev pub all_held : PlanBox → ℕ
all_held b = sum_by (λ n. held_in n.operator) b.nodes.items

-- The box is the plan at work, one node for each of its nodes: these lists were given at its
-- leaves, and this one was taken at its top. It is so after out of memory too.
pub record BoxStands (b : PlanBox) (schemas : List (List Kind)) (plan : Plan) (given : Lists)
    (got : List Message) : Type 0 where
  pub count : length b.nodes.items ≡ node_count (shape_of schemas plan)
  pub few : node_count (shape_of schemas plan) ≤ 1000
  pub wired : (d : Node) → IsWired (λ k. get_or b.nodes.items k d) (shape_of schemas plan) 0
  pub numbered : (d : Node)
      → IsNumbered (λ k. get_or b.nodes.items k d) (shape_of schemas plan) 0 0 0
  pub proper : IsProper (shape_of schemas plan)
  -- each node emits what its operator owes for what passed at its ports
  pub holds : (k : ℕ) (d : Node) → k < length b.nodes.items → NodeHolds (get_or b.nodes.items k d)
  pub leaves_are : b.leaves.items ≡ leaves_of (shape_of schemas plan) 0
  pub gave : (d : Node)
      → LeavesGave (λ k. get_or b.nodes.items k d) (shape_of schemas plan) 0 0 given
  pub fits : GivenFits (shape_of schemas plan) 0 given
  pub got_is : got ≡ taken b.top

-- the lists for which the box stood are those for which it stands now
abbrev pub StaysAsBefore : PlanBox → PlanBox → Type 0
StaysAsBefore old new = (schemas : List (List Kind)) (plan : Plan) (given : Lists)
    (got : List Message) → BoxStands old schemas plan given got
    → BoxStands new schemas plan given got

-- the message was taken at the top
abbrev pub TakesOne : PlanBox → PlanBox → Message → Type 0
TakesOne old new m = (schemas : List (List Kind)) (plan : Plan) (given : Lists) (got : List Message)
    → BoxStands old schemas plan given got → BoxStands new schemas plan given (got ++ m ∷ [])

-- messages were taken at the top and appended to others
pub record TakesAll (old new : PlanBox) (before now : List Message) : Type 0 where
  pub more : List Message
  pub appended : now ≡ before ++ more
  pub stands : (schemas : List (List Kind)) (plan : Plan) (given : Lists) (got : List Message)
      → BoxStands old schemas plan given got → BoxStands new schemas plan given (got ++ more)

-- The message was given at the leaf. With it, what was given there has to stay valid, and its
-- tuples have to fit.
abbrev pub GivesOne : PlanBox → PlanBox → ℕ → Message → Type 0
GivesOne old new leaf m =
    (schemas : List (List Kind)) (plan : Plan) (given : Lists) (got : List Message)
    → BoxStands old schemas plan given got
    → GivenFits (shape_of schemas plan) 0 (with_message given leaf m)
    → BoxStands new schemas plan (with_message given leaf m) got

-- a place is free in the link of this leaf, as far as its outlet knows
abbrev pub HasPlace : PlanBox → ℕ → Type 0
HasPlace b leaf = (d : Leaf) (e : Node)
    → 0 < spare (get_or b.nodes.items (get_or b.leaves.items leaf d).node e).outlet

-- how many messages the node ever took and put
abbrev pub moved_by : Node → ℕ
moved_by n = sum_by (λ p. length (taken p.inlet)) n.ports.items + length (sent n.outlet)

abbrev pub all_moved : List Node → ℕ
all_moved nodes = sum_by moved_by nodes

-- So many messages were taken or put by the nodes; the answer is their number, clamped to 64 bits.
pub record Moved (old new : List Node) (answer : ℕ) : Type 0 where
  pub count : ℕ
  pub more : all_moved new ≡ all_moved old + count
  pub answer_is : answer ≡ min count (2 ^ 64 - 1)

-- Nothing is on its way from the node to the inlet: what was put was taken, nothing is pending, and
-- a place is free.
pub record IsQuiet (n : Node) (inlet : Inlet Message) : Type 0 where
  pub all_taken : taken inlet ≡ sent n.outlet
  pub nothing_pending : n.pending.items ≡ []
  pub has_place : 0 < spare n.outlet

-- Nothing is on its way in the box, and no memory was refused.
pub record IsStill (b : PlanBox) : Type 0 where
  pub going : b.failed ≡ false
  pub links : (k : ℕ) (d : Node) (i : ℕ) (e : Port) → k < length b.nodes.items
      → i < length (get_or b.nodes.items k d).ports.items
      → IsQuiet (get_or b.nodes.items (get_or (get_or b.nodes.items k d).ports.items i e).child d)
      (get_or (get_or b.nodes.items k d).ports.items i e).inlet
  pub top : (k : ℕ) (d : Node) → k + 1 ≡ length b.nodes.items
      → IsQuiet (get_or b.nodes.items k d) b.top
