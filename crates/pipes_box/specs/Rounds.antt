-- Only private functions need these: the steps of a round.
use Rattle.std.specs.Prelude.{◌≡◌, ℕ, ◌+◌, ◌<◌, ◌≤◌, false, List, ◌++◌, length, get_or}
use Rattle.std.specs.Prelude.{Option, Some, None}
use Rattle.pipes_link.specs.Ends.{sent, spare, room_of, taken, known, ready}
use Rattle.pipes_node.specs.declared.node.Node.{Node}
use Rattle.pipes_box.specs.declared.plan_box.PlanBox.{PlanBox}
use Rattle.pipes_node.specs.Nodes.{NodeLooks, NodeTurned}
use Rattle.pipes_box.specs.Boxes.{IsStill}
use Rattle.pipes_box.specs.Backlog.{backlog, FallsAt}

-- each node had its turn, and no memory was refused
pub record AllTurned (old new : List Node) : Type 0 where
  pub count : length new ≡ length old
  pub turned : (k : ℕ) (d : Node) → k < length old → NodeTurned (get_or old k d) (get_or new k d)
  pub going : (k : ℕ) (d : Node) → k < length new → (get_or new k d).failed ≡ false

-- the top link was settled: both ends know each place and each message of it
pub record TopLooks (old new : PlanBox) : Type 0 where
  pub count : length new.nodes.items ≡ length old.nodes.items
  pub looks : (k : ℕ) (d : Node) → k < length old.nodes.items
      → NodeLooks (get_or old.nodes.items k d) (get_or new.nodes.items k d)
  pub taken_same : taken new.top ≡ taken old.top
  pub more_known : ready old.top ≤ ready new.top
  pub waits : (k : ℕ) (d : Node) → k + 1 ≡ length old.nodes.items
      → taken new.top ++ known new.top ≡ sent (get_or new.nodes.items k d).outlet
  pub all_known : (k : ℕ) (d : Node) → k + 1 ≡ length old.nodes.items
      → room_of (get_or new.nodes.items k d).outlet
      ≤ spare (get_or new.nodes.items k d).outlet + ready new.top

-- all that was put into the top link was taken there or is known to wait
abbrev pub TopKnown : PlanBox → Type 0
TopKnown b = (k : ℕ) (d : Node) → k + 1 ≡ length b.nodes.items
    → taken b.top ++ known b.top ≡ sent (get_or b.nodes.items k d).outlet

-- all that was put into the top link was taken there
abbrev pub TopTaken : PlanBox → Type 0
TopTaken b = (k : ℕ) (d : Node) → k + 1 ≡ length b.nodes.items
    → taken b.top ≡ sent (get_or b.nodes.items k d).outlet

-- a number of the backlog before this place fell, or nothing is on its way any more
abbrev pub StepFalls : ℕ → PlanBox → PlanBox → Option ℕ → Type 0
StepFalls place old new (Some p) = (p < place) × FallsAt (backlog old) (backlog new) p
StepFalls place old new None = IsStill new
