-- One source, read up to some place.
use Rattle.std.specs.Prelude.{◌≡◌, ℕ, ◌≤◌, List, ◌++◌, Option, Some, option_map}
use Rattle.std.specs.List.{All}
use Rattle.pipes_tuple.specs.declared.value.Kind.{Kind}
use Rattle.pipes_window.specs.declared.item.Item.{Item}
use Rattle.pipes_window.specs.Valid.{Gathered, HasValid}
use Rattle.pipes_feed.specs.Items.{Items, stamp_in, in_order}
use Rattle.pipes_feed.specs.Reached.{Reached, stamp_floor}
use Rattle.pipes_feed.specs.Ahead.{ItemFits}

-- these items before the others
abbrev pub put_all : List Item → Items → Items
put_all items rest = record { list = items ++ rest.list; end = rest.end }

-- The arrivals so far in order: those in their place for good, at or below the floor, and those
-- that wait. The rows are the valid ones of the first.
pub record IsGathered (kinds : List Kind) (slack : ℕ) (arrivals : List Item) (reached : Reached)
    (waiting : List Item) (rows : Gathered) : Type 0 where
  pub placed : List Item
  pub order : in_order arrivals ≡ placed ++ waiting
  pub low : All (λ i. stamp_in i ≤ stamp_floor slack reached) placed
  pub fit : All (ItemFits kinds) (placed ++ waiting)
  pub valid : HasValid placed rows

-- Some arrivals were taken, and where they were known before the first, those that are ahead now
-- are the rest.
pub record HasTaken (kinds : List Kind) (slack : ℕ) (before now : Option Items) (reached : Reached)
    (waiting : List Item) (rows : Gathered) : Type 0 where
  pub arrivals : List Item
  pub gathered : IsGathered kinds slack arrivals reached waiting rows
  pub rest : (whole : Items) → before ≡ Some whole → option_map (put_all arrivals) now ≡ Some whole

-- Items left those that wait, in order, and their rows were taken.
pub record ReleasesRows (low : ℕ → Type 0) (before now : List Item) (old new : Gathered) : Type 0
  where
    pub moved : List Item
    pub split : before ≡ moved ++ now
    pub due : All (λ i. low (stamp_in i)) moved
    pub kind : new.kind ≡ old.kind
    pub time : new.time ≡ old.time
    pub valid : (items : List Item) → HasValid items old → HasValid (items ++ moved) new
