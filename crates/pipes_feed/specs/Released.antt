-- What is released of a source's arrivals, in the order of their stamps.
use Rattle.std.specs.Prelude.{ℕ, ◌-◌, max, List, [], ◌∷◌, ◌++◌}
use Rattle.pipes_window.specs.declared.item.Item.{Item}
use Rattle.pipes_window.specs.declared.item.Item.TheVariants.{Row, Beat}
use Rattle.pipes_feed.specs.Items.{placed_item}
use Rattle.pipes_feed.specs.Waiting.{up_to, past}
use Rattle.pipes_feed.specs.Reached.{newest_after, beat_after}

-- Arrivals so far: the greatest stamp of a row and of a heartbeat, each 0 where none has come, and
-- the rows that are not released, in order.
pub record Arrived : Type 0 where
  pub newest : ℕ
  pub beat : ℕ
  pub rows : List Item

abbrev pub none_arrived : Arrived
none_arrived = record { newest = 0; beat = 0; rows = [] }

-- the floor: nothing comes below it any more
abbrev pub held_floor : ℕ → Arrived → ℕ
held_floor slack held = max (held.newest - slack) held.beat

-- with one more arrival; a heartbeat does not wait, since it only raises the floor
abbrev pub rows_with : Item → List Item → List Item
rows_with (Row stamp tuple) rows = placed_item (Row stamp tuple) rows
rows_with (Beat stamp) rows = rows

abbrev pub after_arrival : Item → Arrived → Arrived
after_arrival arrival held = record {
  newest = newest_after held.newest arrival;
  beat = beat_after held.beat arrival;
  rows = rows_with arrival held.rows;
}

-- what is released then: the rows up to the floor, and a heartbeat at the floor
abbrev pub due_of : ℕ → Arrived → List Item
due_of slack held = up_to (held_floor slack held) held.rows ++ Beat (held_floor slack held) ∷ []

-- what is held then: the rows past the floor
abbrev pub rest_of : ℕ → Arrived → Arrived
rest_of slack held = record held { rows = past (held_floor slack held) held.rows }

-- what is released by these arrivals, which come after others
abbrev pub released_from : ℕ → Arrived → List Item → List Item
released_from slack held [] = []
released_from slack held (arrival ∷ arrivals) =
    due_of slack (after_arrival arrival held)
    ++ released_from slack (rest_of slack (after_arrival arrival held)) arrivals

abbrev pub held_after : ℕ → Arrived → List Item → Arrived
held_after slack held [] = held
held_after slack held (arrival ∷ arrivals) =
    held_after slack (rest_of slack (after_arrival arrival held)) arrivals

-- The items that are released of these arrivals: after each of them the rows that no later arrival
-- can come before, in the order of their stamps, and then a heartbeat at the floor.
abbrev pub released : ℕ → List Item → List Item
released slack arrivals = released_from slack none_arrived arrivals

-- the rows that are not, in the order of their stamps
abbrev pub unreleased : ℕ → List Item → List Item
unreleased slack arrivals = (held_after slack none_arrived arrivals).rows

-- the items of a source that has ended: the arrivals' rows, all of them, in order
abbrev pub completed : ℕ → List Item → List Item
completed slack arrivals = released slack arrivals ++ unreleased slack arrivals
