-- How far a source has been read, and the floor that the arrivals so far set for those to come.
use Rattle.std.specs.Prelude.{ℕ, ◌+◌, ◌-◌, max}
use Rattle.pipes_window.specs.declared.item.Item.{Item}
use Rattle.pipes_window.specs.declared.item.Item.TheVariants.{Row, Beat}

-- How many lines, bytes and arrivals have come, the greatest stamp of a row and the greatest stamp
-- of a heartbeat, each 0 where none has come.
pub record Reached : Type 0 where
  pub lines : ℕ
  pub bytes : ℕ
  pub items : ℕ
  pub newest : ℕ
  pub beat : ℕ

abbrev pub source_start : Reached
source_start = record { lines = 0; bytes = 0; items = 0; newest = 0; beat = 0 }

-- The least stamp that an arrival may have: rows may come late by up to the slack, and nothing
-- comes below a heartbeat.
abbrev pub stamp_floor : ℕ → Reached → ℕ
stamp_floor slack reached = max (reached.newest - slack) reached.beat

-- the most bytes of a source, line feeds included
abbrev pub most_bytes : ℕ
most_bytes = 1073741824

-- the most arrivals of a source
abbrev pub most_items : ℕ
most_items = 4000000

-- after a line of this size that is no arrival
abbrev pub after_line : Reached → ℕ → Reached
after_line reached size =
    record reached { lines = reached.lines + 1; bytes = reached.bytes + size }

-- the greatest stamps once this item has come
abbrev pub newest_after : ℕ → Item → ℕ
newest_after newest (Row stamp tuple) = max newest stamp
newest_after newest (Beat stamp) = newest

abbrev pub beat_after : ℕ → Item → ℕ
beat_after beat (Row stamp tuple) = beat
beat_after beat (Beat stamp) = max beat stamp

-- after a line of this size that is this arrival
abbrev pub after_item : Reached → ℕ → Item → Reached
after_item reached size item = record {
  lines = reached.lines + 1;
  bytes = reached.bytes + size;
  items = reached.items + 1;
  newest = newest_after reached.newest item;
  beat = beat_after reached.beat item;
}
