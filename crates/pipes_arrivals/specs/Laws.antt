-- What holds of the elements of arrivals, whatever arrives.
use Rattle.std.specs.Prelude.{◌≡◌, ℕ, ◌≤◌, ◌<◌, List, ◌++◌, false}
use Rattle.std.specs.List.{All}
use Rattle.pipes_time.specs.Interval.{horizon}
use Rattle.pipes_stream.specs.declared.Elem.{Elem}
use Rattle.pipes_stream.specs.Snapshot.{snapshot}
use Rattle.pipes_window.specs.declared.item.Item.{Item}
use Rattle.pipes_window.specs.declared.kind.WindowKind.{WindowKind}
use Rattle.pipes_window.specs.Windows.{IsWindow, in_window, spans, known, window_beat}
use Rattle.pipes_window.specs.Laws.{SpansAreRows, StartsFrom}
use Rattle.pipes_feed.specs.Items.{in_order}
use Rattle.pipes_feed.specs.Released.{released, completed}
use Rattle.pipes_arrivals.specs.Arriving.{Arrive}

-- the elements of a source whose arrivals were these: at each instant they hold the rows valid
-- then, those of the arrivals in the order of their stamps
pub record AreRowsInOrder (slack : ℕ) (kind : WindowKind) (arrivals : List Item) : Type 0 where
  pub spans_are : SpansAreRows kind (completed slack arrivals)
  pub rows : (t : ℕ) → t < horizon
      → snapshot (spans kind (completed slack arrivals)) t ≡ in_window kind (in_order arrivals) t

-- the heartbeat of arrivals that go on: no known start lies above it and, whatever arrives, no later
-- start lies below it
pub record IsArrivalBeat (slack : ℕ) (kind : WindowKind) (arrivals : List Item) : Type 0 where
  pub past : All (λ e. e.span.start ≤ window_beat kind (released slack arrivals) false)
      (known kind (released slack arrivals))
  pub ahead : (more : List Item) → Arrive slack (arrivals ++ more)
      → (rest : List Elem)
      × (spans kind (completed slack (arrivals ++ more))
      ≡ known kind (released slack arrivals) ++ rest)
      × StartsFrom (window_beat kind (released slack arrivals) false) rest

abbrev pub OfArrivals : (ℕ → WindowKind → List Item → Type 0) → Type 0
OfArrivals P =
    (slack : ℕ) (kind : WindowKind) (arrivals : List Item) → IsWindow kind → Arrive slack arrivals
    → P slack kind arrivals
