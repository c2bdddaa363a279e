-- Windows at work: what one holds, which items it has taken, and what a call does.
use Rattle.std.specs.Prelude.{◌≡◌, ℕ, List, [], ◌∷◌, ◌++◌, Bool, false, true, if◌then◌else◌}
use Rattle.pipes_stream.specs.declared.Elem.{Elem}
use Rattle.pipes_window.specs.declared.item.Item.{Item}
use Rattle.pipes_window.specs.declared.kind.WindowKind.{WindowKind}
use Rattle.pipes_window.specs.declared.row.Row.{Row}
use Rattle.pipes_window.specs.Items.{StampsRise, item_stamp, last_stamp}
use Rattle.pipes_window.specs.Windows.{IsWindow, waiting}
use Rattle.pipes_window.specs.Laws.{MakesKnown, MakesRest}

-- what a window holds: the rows whose ends are not fixed, the last stamp, whether it has ended, and
-- whether it ran out of memory
pub record State : Type 0 where
  pub kind : WindowKind
  pub rows : List Row
  pub last : ℕ
  pub ended : Bool
  pub failed : Bool

abbrev pub new_state : WindowKind → State
new_state kind = record { kind = kind; rows = []; last = 0; ended = false; failed = false }

-- it has taken these items, and never ran out of memory; of the rows it holds those that
-- wait, and none once it has ended
pub record WindowHasTaken (items : List Item) (window : State) : Type 0 where
  pub limits : IsWindow window.kind
  pub source : StampsRise items
  pub rows : window.rows ≡ (if window.ended then [] else waiting window.kind items)
  pub last : window.last ≡ last_stamp items
  pub unfailed : window.failed ≡ false

-- It took one more item, and appended what the item makes known.
pub record WindowTakes (old new : State) (item : Item) (before after : List Elem) : Type 0 where
  pub kind : new.kind ≡ old.kind
  pub last : new.last ≡ item_stamp item
  pub ended : new.ended ≡ old.ended
  pub failed : new.failed ≡ old.failed
  pub taken : (items : List Item) → WindowHasTaken items old
      → WindowHasTaken (items ++ item ∷ []) new
  pub sent : (more : List Elem) × (after ≡ before ++ more)
      × ((items : List Item) → WindowHasTaken items old → MakesKnown old.kind items item more)

-- It ended, and appended the rest.
pub record WindowFinishes (old new : State) (before after : List Elem) : Type 0 where
  pub kind : new.kind ≡ old.kind
  pub last : new.last ≡ old.last
  pub ended : new.ended ≡ true
  pub failed : new.failed ≡ old.failed
  pub taken : (items : List Item) → WindowHasTaken items old → WindowHasTaken items new
  pub sent : (more : List Elem) × (after ≡ before ++ more)
      × ((items : List Item) → WindowHasTaken items old → MakesRest old.kind items more)

-- It ran out of memory: nothing was appended, and it takes no more.
pub record WindowFails (old new : State) (before after : List Elem) : Type 0 where
  pub kind : new.kind ≡ old.kind
  pub last : new.last ≡ old.last
  pub ended : new.ended ≡ old.ended
  pub failed : new.failed ≡ true
  pub same : after ≡ before
