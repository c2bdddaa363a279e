-- What a reader of arrivals has ahead, and what a call of it takes.
use Rattle.std.specs.Prelude.{◌≡◌, ℕ, ◌+◌, ◌<◌, ◌≤◌, List, [], ◌∷◌, filter, Option, Some, None}
use Rattle.std.specs.Prelude.{option_map, ⊤}
use Rattle.std.specs.Io.KnownBytes.{prepend_known}
use Rattle.pipes_time.specs.Interval.{horizon}
use Rattle.pipes_tuple.specs.declared.value.Kind.{Kind}
use Rattle.pipes_tuple.specs.Kinds.{Fits}
use Rattle.pipes_window.specs.declared.item.Item.{Item}
use Rattle.pipes_window.specs.declared.item.Item.TheVariants.{Row, Beat}
use Rattle.pipes_line.specs.Lines.{Line, lines_of, size_of}
use Rattle.pipes_feed.specs.declared.line.Verdict.TheVariants.{Pass}
use Rattle.pipes_feed.specs.declared.reason.Reason.{Reason}
use Rattle.pipes_feed.specs.declared.reason.Reason.TheVariants as reason
use Rattle.pipes_feed.specs.declared.reader.Next.{Next}
use Rattle.pipes_feed.specs.declared.reader.Next.TheVariants as next
use Rattle.pipes_feed.specs.Reached.{Reached, stamp_floor, newest_after, beat_after, after_line}
use Rattle.pipes_feed.specs.Reached.{most_bytes, most_items}
use Rattle.pipes_feed.specs.Judged.{judge}
use Rattle.pipes_feed.specs.Items.{Items, arrivals_from, no_more, put, stamp_in}
use Rattle.pipes_feed.specs.State.{ReaderState}

-- the arrivals of the bytes from here on, where it is known which bytes the source has left
abbrev pub arrivals_ahead : ReaderState → Option (List ℕ) → Option Items
arrivals_ahead reader left =
    option_map (λ bytes. arrivals_from reader.kinds reader.slack reader.reached (lines_of bytes))
    (prepend_known reader.unread left)

-- An arrival was the first of those ahead, and the others are ahead now. The end of the lines, a
-- refused line and a limit are reported where nothing is ahead and the arrivals end so.
abbrev pub TakesArrival : Option Items → Option Items → Next → Type 0
TakesArrival None now answer = ⊤
TakesArrival (Some before) now (next.Item item) = option_map (put item) now ≡ Some before
TakesArrival (Some before) now (next.Ended reason.AtEnd) = before ≡ no_more reason.AtEnd
TakesArrival (Some before) now (next.Ended (reason.Row line why)) =
    before ≡ no_more (reason.Row line why)
TakesArrival (Some before) now (next.Ended (reason.Limit line)) =
    before ≡ no_more (reason.Limit line)
TakesArrival (Some before) now (next.Ended reason.Failed) = ⊤
TakesArrival (Some before) now (next.Ended reason.Memory) = ⊤

-- a line that is passed over changes nothing of what is ahead
abbrev pub StepsAhead : Option Items → Option Items → Option Next → Type 0
StepsAhead None now answer = ⊤
StepsAhead (Some before) now None = now ≡ Some before
StepsAhead (Some before) now (Some answer) = TakesArrival (Some before) now answer

-- known arrivals stay as they were
abbrev pub KeepsItems : Option Items → Option Items → Type 0
KeepsItems None now = ⊤
KeepsItems (Some before) now = now ≡ Some before

-- the lines of these bytes that a line feed ends
abbrev pub whole_lines : List ℕ → List Line
whole_lines bytes = filter (λ l. l.ended) (lines_of bytes)

-- the line is passed over, and is what the reading goes past
pub record IsPassed (kinds : List Kind) (slack : ℕ) (before now : Reached) (line : Line) : Type 0
  where
    pub judged : judge kinds slack before line ≡ Pass
    pub after : now ≡ after_line before (size_of line)

-- each of the lines is passed over: none is an arrival, and none is refused
abbrev pub ArePassed : List Kind → ℕ → Reached → List Line → Type 0
ArePassed kinds slack reached [] = ⊤
ArePassed kinds slack reached (line ∷ lines) =
    (judge kinds slack reached line ≡ Pass)
    × ArePassed kinds slack (after_line reached (size_of line)) lines

-- no arrival and no refused line waits whole among the bytes that were read already
abbrev pub NoneWaits : ReaderState → Type 0
NoneWaits reader = ArePassed reader.kinds reader.slack reader.reached (whole_lines reader.unread)

-- a line was passed over
pub record PassesLine (before now : Reached) : Type 0 where
  pub items : now.items ≡ before.items
  pub newest : now.newest ≡ before.newest
  pub beat : now.beat ≡ before.beat
  pub bytes : before.bytes < now.bytes
  pub short : now.bytes ≤ most_bytes

-- a row's tuple has the kinds of the columns
abbrev pub ItemFits : List Kind → Item → Type 0
ItemFits kinds (Row stamp tuple) = Fits tuple kinds
ItemFits kinds (Beat stamp) = ⊤

-- an arrival, by how far the source was read before it and after it
pub record ArrivalFollows (kinds : List Kind) (slack : ℕ) (before now : Reached)
    (item : Item) : Type 0 where
  pub at_floor : stamp_floor slack before ≤ stamp_in item
  pub in_range : stamp_in item < horizon
  pub newest : now.newest ≡ newest_after before.newest item
  pub beat : now.beat ≡ beat_after before.beat item
  pub fits : ItemFits kinds item
  pub counted : now.items ≡ before.items + 1
  pub few : now.items ≤ most_items
  pub bytes : before.bytes < now.bytes
  pub short : now.bytes ≤ most_bytes

-- one fact of an arrival, and another of an end
abbrev pub MatchNext : Next → (Item → Type 0) → (Reason → Type 0) → Type 0
MatchNext (next.Item item) P Q = P item
MatchNext (next.Ended reason) P Q = Q reason
