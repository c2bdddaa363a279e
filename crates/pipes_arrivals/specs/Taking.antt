-- What the calls do.
use Rattle.std.specs.Prelude.{◌≡◌, ℕ, ◌≤◌, ◌<◌, List, [], ◌∷◌, ◌++◌, Bool, false, true}
use Rattle.pipes_time.specs.Interval.{horizon}
use Rattle.pipes_stream.specs.declared.Elem.{Elem}
use Rattle.pipes_window.specs.declared.item.Item.{Item}
use Rattle.pipes_window.specs.Items.{RisesFrom}
use Rattle.pipes_window.specs.Windows.{spans, known}
use Rattle.pipes_window.specs.State.{State, WindowHasTaken}
use Rattle.pipes_feed.specs.Released.{Arrived, held_floor, after_arrival, rest_of, released}
use Rattle.pipes_feed.specs.Released.{completed}
use Rattle.pipes_arrivals.specs.Arriving.{Arriving, HasArrived, HasFinished}

-- The appended elements are those that one more arrival makes known.
pub record ArrivalsTake (old new : Arriving) (arrival : Item) (before after : List Elem)
    : Type 0 where
  pub slack : new.slack ≡ old.slack
  pub kind : new.window.kind ≡ old.window.kind
  pub ended : new.window.ended ≡ old.window.ended
  pub failed : new.failed ≡ false
  pub held : new.held ≡ rest_of old.slack (after_arrival arrival old.held)
  pub taken : (arrivals : List Item) → HasArrived arrivals old
      → HasArrived (arrivals ++ arrival ∷ []) new
  pub sent : (more : List Elem) × (after ≡ before ++ more)
      × ((arrivals : List Item) → HasArrived arrivals old
      → known old.window.kind (released old.slack (arrivals ++ arrival ∷ []))
      ≡ known old.window.kind (released old.slack arrivals) ++ more)

-- It ended, and appended the rest.
pub record ArrivalsFinish (old new : Arriving) (before after : List Elem) : Type 0 where
  pub slack : new.slack ≡ old.slack
  pub kind : new.window.kind ≡ old.window.kind
  pub ended : new.window.ended ≡ true
  pub failed : new.failed ≡ false
  pub taken : (arrivals : List Item) → HasArrived arrivals old → HasFinished arrivals new
  pub sent : (more : List Elem) × (after ≡ before ++ more)
      × ((arrivals : List Item) → HasArrived arrivals old
      → spans old.window.kind (completed old.slack arrivals)
      ≡ known old.window.kind (released old.slack arrivals) ++ more)

-- It ran out of memory: nothing was appended, and it takes no more.
pub record ArrivalsFail (old new : Arriving) (before after : List Elem) : Type 0 where
  pub slack : new.slack ≡ old.slack
  pub kind : new.window.kind ≡ old.window.kind
  pub ended : new.window.ended ≡ old.window.ended
  pub failed : new.failed ≡ true
  pub same : after ≡ before

-- ---- for private functions
-- what waits lies past the floor, and the window has come no further than to the floor
pub record WaitsPast (slack : ℕ) (held : Arrived) (last : ℕ) : Type 0 where
  pub newest : held.newest < horizon
  pub beat : held.beat < horizon
  pub last_taken : last ≤ held_floor slack held
  pub rows : RisesFrom (held_floor slack held) held.rows
  pub none : slack ≡ 0 → held.rows ≡ []

-- so it is while others may follow
abbrev pub GoesOn : ℕ → Arrived → State → Bool → Type 0
GoesOn slack held window failed =
    failed ≡ false → window.ended ≡ false → WaitsPast slack held window.last

-- The window took these items one after another.
pub record Passes (moved : List Item) (old new : State) (before after : List Elem) : Type 0 where
  pub failed : new.failed ≡ old.failed
  pub taken : (items : List Item) → WindowHasTaken items old → WindowHasTaken (items ++ moved) new
  pub sent : (more : List Elem) × (after ≡ before ++ more)
      × ((items : List Item) → WindowHasTaken items old
      → known old.kind (items ++ moved) ≡ known old.kind items ++ more)
