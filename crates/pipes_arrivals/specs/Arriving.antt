-- Which arrivals may come, and what a source's arrivals are at work.
use Rattle.std.specs.Prelude.{◌≡◌, ℕ, ◌≤◌, ◌<◌, List, [], ◌∷◌, Bool, false, true, ⊤}
use Rattle.pipes_time.specs.Interval.{horizon}
use Rattle.pipes_window.specs.declared.item.Item.{Item}
use Rattle.pipes_window.specs.declared.kind.WindowKind.{WindowKind}
use Rattle.pipes_window.specs.Items.{item_stamp}
use Rattle.pipes_window.specs.State.{State, new_state, WindowHasTaken}
use Rattle.pipes_feed.specs.Released.{Arrived, none_arrived, held_floor, after_arrival, rest_of}
use Rattle.pipes_feed.specs.Released.{held_after, released, completed}

-- The arrivals may come after others: none lies below the floor that those before it set, and each
-- lies below the horizon.
abbrev pub ArriveAfter : ℕ → Arrived → List Item → Type 0
ArriveAfter slack held [] = ⊤
ArriveAfter slack held (arrival ∷ arrivals) =
    (held_floor slack held ≤ item_stamp arrival) × (item_stamp arrival < horizon)
    × ArriveAfter slack (rest_of slack (after_arrival arrival held)) arrivals

abbrev pub Arrive : ℕ → List Item → Type 0
Arrive slack arrivals = ArriveAfter slack none_arrived arrivals

-- The slack; the greatest stamps, and the rows that wait; the window; and whether memory was
-- wanting.
pub record Arriving : Type 0 where
  pub slack : ℕ
  pub held : Arrived
  pub window : State
  pub failed : Bool

abbrev pub new_arriving : ℕ → WindowKind → Arriving
new_arriving slack kind =
    record { slack = slack; held = none_arrived; window = new_state kind; failed = false }

-- nothing comes below it any more
abbrev pub floor_of : Arriving → ℕ
floor_of a = held_floor a.slack a.held

-- these arrivals have come, and others may follow
pub record HasArrived (arrivals : List Item) (a : Arriving) : Type 0 where
  pub come : Arrive a.slack arrivals
  pub held : a.held ≡ held_after a.slack none_arrived arrivals
  pub window : WindowHasTaken (released a.slack arrivals) a.window
  pub goes_on : a.window.ended ≡ false

-- these arrivals have come, and were all
pub record HasFinished (arrivals : List Item) (a : Arriving) : Type 0 where
  pub come : Arrive a.slack arrivals
  pub window : WindowHasTaken (completed a.slack arrivals) a.window
  pub ended : a.window.ended ≡ true
