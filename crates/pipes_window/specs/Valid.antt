-- The rows that are valid at one instant, as they are gathered.
use Rattle.std.specs.Prelude.{◌≡◌, ℕ, ◌+◌, ◌≤◌, List, [], ◌∷◌, ◌++◌, length, ⊤, Bool, nat_le}
use Rattle.std.specs.Prelude.{nat_lt, ◌&&◌}
use Rattle.pipes_time.specs.Slides.{last_slide}
use Rattle.pipes_tuple.specs.declared.value.Value.{Value}
use Rattle.pipes_window.specs.declared.item.Item.{Item}
use Rattle.pipes_window.specs.declared.kind.WindowKind.{WindowKind}
use Rattle.pipes_window.specs.declared.kind.WindowKind.TheVariants.{Time, Slide, Count}
use Rattle.pipes_window.specs.Items.{last_n}
use Rattle.pipes_window.specs.Windows.{in_window}

-- what is gathered: the rows of a window of this kind at this instant
pub record Gathered : Type 0 where
  pub kind : WindowKind
  pub time : ℕ
  pub rows : List (List Value)

-- it has the rows of these items that are valid
abbrev pub HasValid : List Item → Gathered → Type 0
HasValid items g = g.rows ≡ in_window g.kind items g.time

-- It took one more item.
pub record Gathers (old new : Gathered) (item : Item) : Type 0 where
  pub kind : new.kind ≡ old.kind
  pub time : new.time ≡ old.time
  pub valid : (items : List Item) → HasValid items old → HasValid (items ++ item ∷ []) new

-- Whether a row with this stamp has come by the instant and, but for a count window, is still valid
-- then.
abbrev pub reaches : WindowKind → ℕ → ℕ → Bool
reaches (Time size) stamp t = nat_le stamp t && nat_lt t (stamp + size)
reaches (Slide size slide) stamp t = nat_le stamp (last_slide slide t) && nat_lt
    (last_slide slide t) (stamp + size)
reaches (Count n) stamp t = nat_le stamp t

-- those of the rows that came last which count: all, or the last n
abbrev pub newest : WindowKind → List (List Value) → List (List Value)
newest (Time size) rows = rows
newest (Slide size slide) rows = rows
newest (Count n) rows = last_n n rows

-- a count window holds no more rows than it counts
abbrev pub HoldsFew : WindowKind → List (List Value) → Type 0
HoldsFew (Time size) rows = ⊤
HoldsFew (Slide size slide) rows = ⊤
HoldsFew (Count n) rows = length rows ≤ n
