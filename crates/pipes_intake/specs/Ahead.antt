-- A reader with one arrival read ahead.
use Rattle.std.specs.Prelude.{◌≡◌, ℕ, ◌+◌, ◌-◌, ◌≤◌, ◌<◌, min, List, [], ◌∷◌, ◌++◌, Option, Some}
use Rattle.std.specs.Prelude.{None}
use Rattle.pipes_time.specs.Interval.{horizon}
use Rattle.pipes_tuple.specs.declared.value.Kind.{Kind}
use Rattle.pipes_edge.specs.Causes.{Rose}
use Rattle.pipes_window.specs.declared.item.Item.{Item}
use Rattle.pipes_feed.specs.declared.reason.Reason.TheVariants as reason
use Rattle.pipes_feed.specs.declared.reader.Next.{Next}
use Rattle.pipes_feed.specs.declared.reader.Next.TheVariants as next
use Rattle.pipes_feed.specs.Items.{stamp_in, arrivals_of}
use Rattle.pipes_feed.specs.Reached.{Reached}
use Rattle.pipes_feed.specs.Released.{Arrived, none_arrived, held_floor, held_after}
use Rattle.pipes_feed.specs.State.{ReaderState}
use Rattle.pipes_feed.specs.Ahead.{arrivals_ahead, ItemFits}
use Rattle.pipes_intake.specs.declared.ahead.Ahead.{Ahead}
use Rattle.pipes_intake.specs.Taken.{ComesThen}

-- what is held of arrivals once these have come
abbrev pub held_of : ℕ → List Item → Arrived
held_of slack taken = held_after slack none_arrived taken

-- the arrival may come after these: it is not below their floor
pub record MayArrive (kinds : List Kind) (slack : ℕ) (taken : List Item) (item : Item) : Type 0
  where
    pub at_floor : held_floor slack (held_of slack taken) ≤ stamp_in item
    pub below : stamp_in item < horizon
    pub fits : ItemFits kinds item

-- the reader has come as far as these arrivals
pub record HasReached (slack : ℕ) (taken : List Item) (reached : Reached) : Type 0 where
  pub newest : reached.newest ≡ (held_of slack taken).newest
  pub beat : reached.beat ≡ (held_of slack taken).beat
  pub few : reached.items ≤ 4000000

-- the arrival that was read ahead may come after these, and the end is known to the reader
abbrev pub IsNext : List Kind → ℕ → List Item → ReaderState → Next → Type 0
IsNext kinds slack taken reader (next.Item item) = MayArrive kinds slack taken item
    × HasReached slack (taken ++ item ∷ []) reader.reached × (reader.ended ≡ None)
IsNext kinds slack taken reader (next.Ended reason) = reader.ended ≡ Some reason

-- Of what the source had left at first, these arrivals were taken. A failed read comes next only
-- where the source's count of faults has risen since.
pub record HasTaken (kinds : List Kind) (slack : ℕ) (first left : Option (List ℕ))
    (before now : ℕ) (ahead : Ahead) (taken : List Item) : Type 0 where
  pub kinds_are : ahead.reader.kinds ≡ kinds
  pub slack_is : ahead.reader.slack ≡ slack
  pub follows : IsNext kinds slack taken ahead.reader ahead.next
  pub source : (bytes : List ℕ) → first ≡ Some bytes
      → ComesThen (arrivals_of kinds slack bytes) taken ahead.next (arrivals_ahead ahead.reader left)
  pub later : before ≤ now
  pub failed : ahead.next ≡ next.Ended reason.Failed → Rose before now

-- when the next one has its turn: an end before all arrivals, and these by their stamps
abbrev pub turn_of : Next → ℕ
turn_of (next.Item item) = min (stamp_in item + 1) 18446744073709551614
turn_of (next.Ended reason) = 0

-- how many turns are left at most, after so many arrivals: one for each that may come, and one for
-- the end
abbrev pub turns_after : ℕ → Next → ℕ
turns_after items (next.Item item) = 4000002 - items
turns_after items (next.Ended reason) = 1

abbrev pub turns_left : Ahead → ℕ
turns_left ahead = turns_after ahead.reader.reached.items ahead.next
