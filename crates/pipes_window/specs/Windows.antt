-- Windows: the rows that are valid at an instant, the interval of each row, and the heartbeat.
use Rattle.std.specs.Prelude.{ℕ, ◌+◌, ◌-◌, ◌≤◌, min, List, [], ◌∷◌, ◌++◌, Bool, nat_le, nat_lt}
use Rattle.std.specs.Prelude.{◌&&◌, if◌then◌else◌, Option, Some, None, map, filter, slice_get}
use Rattle.std.specs.Prelude.{unwrap_or}
use Rattle.std.specs.Option.{option_map, option_map_or}
use Rattle.pipes_time.specs.Interval.{Span, horizon, closed}
use Rattle.pipes_time.specs.Slides.{IsDuration, last_slide, next_slide, slide_end}
use Rattle.pipes_tuple.specs.declared.value.Value.{Value}
use Rattle.pipes_stream.specs.declared.Elem.{Elem}
use Rattle.pipes_window.specs.declared.item.Item.{Item}
use Rattle.pipes_window.specs.declared.kind.WindowKind.{WindowKind}
use Rattle.pipes_window.specs.declared.kind.WindowKind.TheVariants.{Time, Slide, Count}
use Rattle.pipes_window.specs.declared.row.Row.{Row}
use Rattle.pipes_window.specs.Items.{rows_of, last_stamp, last_n}

-- a window within its limits
abbrev pub IsWindow : WindowKind → Type 0
IsWindow (Time size) = IsDuration size
IsWindow (Slide size slide) = IsDuration size × IsDuration slide
IsWindow (Count n) = (1 ≤ n) × (n ≤ 1000000)

-- the row is one of the last `size` instants up to this one
abbrev pub is_recent : ℕ → ℕ → Row → Bool
is_recent size t row = nat_le row.stamp t && nat_lt t (row.stamp + size)

-- the row has come by the instant
abbrev pub has_come : ℕ → Row → Bool
has_come t row = nat_le row.stamp t

-- The rows that are valid at the instant, in the order of the source. In a sliding window they are
-- those of its last move at or before the instant.
abbrev pub valid_rows : WindowKind → List Row → ℕ → List Row
valid_rows (Time size) rows t = filter (is_recent size t) rows
valid_rows (Slide size slide) rows t = filter (is_recent size (last_slide slide t)) rows
valid_rows (Count n) rows t = last_n n (filter (has_come t) rows)

-- their tuples
abbrev pub in_window : WindowKind → List Item → ℕ → List (List Value)
in_window kind items t = map (λ r. r.tuple) (valid_rows kind (rows_of items) t)

-- the first instant of a row with this stamp
abbrev pub span_start : WindowKind → ℕ → ℕ
span_start (Time size) stamp = stamp
span_start (Slide size slide) stamp = next_slide slide stamp
span_start (Count n) stamp = stamp

-- The end of a row, where it or the rows after it fix one: in a count window of n the n-th row
-- after it does.
abbrev pub end_of : WindowKind → Row → List Row → Option ℕ
end_of (Time size) row later = Some (min (row.stamp + size) horizon)
end_of (Slide size slide) row later = Some (slide_end size slide row.stamp)
end_of (Count n) row later = option_map (λ r. r.stamp) (slice_get later (n - 1))

-- the tuple with its validity, left out where it has none
abbrev pub elem_of : List Value → Option Span → List Elem
elem_of tuple None = []
elem_of tuple (Some span) = record { tuple = tuple; span = span } ∷ []

abbrev pub span_of : ℕ → ℕ → Span
span_of start end = record { start = start; end = end }

-- the tuple from a start up to an end, left out where that is empty
abbrev pub elem_between : List Value → ℕ → ℕ → List Elem
elem_between tuple start end = if nat_lt start end then elem_of tuple
    (Some (span_of start end)) else []

-- the row from its start up to this end
abbrev pub span_up_to : WindowKind → Row → ℕ → List Elem
span_up_to kind row end = elem_between row.tuple (span_start kind row.stamp) end

-- the row up to its end, or up to the horizon where none is fixed
abbrev pub whole_span : WindowKind → Row → Option ℕ → List Elem
whole_span kind row end = span_up_to kind row (unwrap_or end horizon)

-- the row up to its end, where one is fixed
abbrev pub fixed_span : WindowKind → Row → Option ℕ → List Elem
fixed_span kind row end = option_map_or (span_up_to kind row) end []

-- what this gives of each row and its end, in the order of the rows
unfoldable pub each_row : (WindowKind → Row → Option ℕ → List Elem) → WindowKind → List Row
    → List Elem
each_row give kind [] = []
each_row give kind (row ∷ later) = give kind row (end_of kind row later) ++ each_row give kind later

-- the elements of a source that has these items and no more
abbrev pub spans : WindowKind → List Item → List Elem
spans kind items = each_row whole_span kind (rows_of items)

-- those of them whose ends the items fix, whatever follows
abbrev pub known : WindowKind → List Item → List Elem
known kind items = each_row fixed_span kind (rows_of items)

-- the rows whose ends are not fixed: none, or the last n
abbrev pub waiting_of : WindowKind → List Row → List Row
waiting_of (Time size) rows = []
waiting_of (Slide size slide) rows = []
waiting_of (Count n) rows = last_n n rows

abbrev pub waiting : WindowKind → List Item → List Row
waiting kind items = waiting_of kind (rows_of items)

-- the most rows that wait
abbrev pub most_rows : WindowKind → ℕ
most_rows (Time size) = 0
most_rows (Slide size slide) = 0
most_rows (Count n) = n

-- the stamp of the oldest row whose end is not fixed, or else the greatest stamp
abbrev pub oldest_stamp : WindowKind → List Item → ℕ
oldest_stamp kind items = option_map_or (λ r. r.stamp) (slice_get (waiting kind items) 0)
    (last_stamp items)

-- the first instant of a row with this stamp, but at most the horizon
abbrev pub beat_of : WindowKind → ℕ → ℕ
beat_of (Time size) stamp = stamp
beat_of (Slide size slide) stamp = min (next_slide slide stamp) horizon
beat_of (Count n) stamp = stamp

-- the heartbeat of a window that goes on
abbrev pub waiting_beat : WindowKind → List Item → ℕ
waiting_beat kind items = beat_of kind (oldest_stamp kind items)

-- the heartbeat of a window that has taken these items, and ended or not
abbrev pub window_beat : WindowKind → List Item → Bool → ℕ
window_beat kind items ended = if ended then closed else waiting_beat kind items
