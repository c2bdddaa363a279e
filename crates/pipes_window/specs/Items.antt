-- The items of a source, and the rows among them.
use Rattle.std.specs.Prelude.{ℕ, ◌-◌, ◌≤◌, ◌<◌, max, List, [], ◌∷◌, length, drop, ⊤}
use Rattle.pipes_time.specs.Interval.{horizon}
use Rattle.pipes_window.specs.declared.item.Item.{Item}
use Rattle.pipes_window.specs.declared.item.Item.TheVariants as items
use Rattle.pipes_window.specs.declared.row.Row.{Row}

abbrev pub item_stamp : Item → ℕ
item_stamp (items.Row stamp tuple) = stamp
item_stamp (items.Beat stamp) = stamp

-- the rows, in the order of the source
abbrev pub rows_of : List Item → List Row
rows_of [] = []
rows_of (items.Row stamp tuple ∷ rest) = record { stamp = stamp; tuple = tuple } ∷ rows_of rest
rows_of (items.Beat stamp ∷ rest) = rows_of rest

-- the greatest stamp, 0 where there is none
abbrev pub last_stamp : List Item → ℕ
last_stamp [] = 0
last_stamp (item ∷ rest) = max (item_stamp item) (last_stamp rest)

-- from this stamp on the stamps never fall, and each lies below the horizon
abbrev pub RisesFrom : ℕ → List Item → Type 0
RisesFrom low [] = ⊤
RisesFrom low (item ∷ rest) = (low ≤ item_stamp item) × (item_stamp item < horizon)
    × RisesFrom (item_stamp item) rest

-- items as a source gives them
abbrev pub StampsRise : List Item → Type 0
StampsRise source = RisesFrom 0 source

-- the last n of a list, or all where there are fewer
abbrev pub last_n : {X : Type 0} → ℕ → List X → List X
last_n n xs = drop (length xs - n) xs
