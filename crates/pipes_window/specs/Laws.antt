-- What holds of the elements and of the heartbeat of a window, whatever its source gives.
use Rattle.std.specs.Prelude.{◌≡◌, ℕ, ◌≤◌, ◌<◌, List, [], ◌∷◌, ◌++◌, length, false}
use Rattle.std.specs.List.{All}
use Rattle.pipes_time.specs.Interval.{horizon, IsInterval}
use Rattle.pipes_time.specs.Rising.{RisesBy}
use Rattle.pipes_tuple.specs.Bag.{SameBag}
use Rattle.pipes_stream.specs.declared.Elem.{Elem}
use Rattle.pipes_stream.specs.Snapshot.{snapshot}
use Rattle.pipes_window.specs.declared.item.Item.{Item}
use Rattle.pipes_window.specs.declared.kind.WindowKind.{WindowKind}
use Rattle.pipes_window.specs.Items.{StampsRise}
use Rattle.pipes_window.specs.Windows.{in_window, spans, known, window_beat}

-- from this instant on the starts never fall
abbrev pub StartsFrom : ℕ → List Elem → Type 0
StartsFrom = RisesBy (λ e. e.span.start)

-- the spans are intervals in the order of their starts, and those that hold an instant are the rows
-- valid then
pub record SpansAreRows (kind : WindowKind) (items : List Item) : Type 0 where
  pub intervals : All (λ e. IsInterval e.span.start e.span.end) (spans kind items)
  pub order : StartsFrom 0 (spans kind items)
  pub rows : (t : ℕ) → t < horizon → snapshot (spans kind items) t ≡ in_window kind items t
  pub bags : (t : ℕ) → t < horizon
      → SameBag (snapshot (spans kind items) t) (in_window kind items t)

-- the heartbeat of a window that goes on: no known start lies above it and, whatever follows, no
-- later start lies below it
pub record IsHeartbeat (kind : WindowKind) (items : List Item) : Type 0 where
  pub past : All (λ e. e.span.start ≤ window_beat kind items false) (known kind items)
  pub ahead : (more : List Item) → StampsRise (items ++ more)
      → (rest : List Elem) × (spans kind (items ++ more) ≡ known kind items ++ rest)
      × StartsFrom (window_beat kind items false) rest

-- what one more item makes known: at most one element, whose start lies between the heartbeats
-- before and after the item
pub record MakesKnown (kind : WindowKind) (items : List Item) (item : Item)
    (more : List Elem) : Type 0 where
  pub all : known kind (items ++ item ∷ []) ≡ known kind items ++ more
  pub few : length more ≤ 1
  pub starts : StartsFrom (window_beat kind items false) more
  pub caught_up : All (λ e. e.span.start ≤ window_beat kind (items ++ item ∷ []) false) more
  pub rises : window_beat kind items false ≤ window_beat kind (items ++ item ∷ []) false

-- what is left when the source ends: the rest of the spans, from the heartbeat on
pub record MakesRest (kind : WindowKind) (items : List Item) (more : List Elem) : Type 0 where
  pub all : spans kind items ≡ known kind items ++ more
  pub starts : StartsFrom (window_beat kind items false) more
