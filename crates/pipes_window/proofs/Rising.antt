-- Stamps that never fall.
use Rattle.std.proofs.Common.{◌≡◌, ℕ, zero, suc, ◌-◌, ◌≤◌, ◌<◌, max, List, [], ◌∷◌, ◌++◌, length}
use Rattle.std.proofs.Common.{drop, Some, refl, sym, ap, subst, arith, slice_get}
use Rattle.std.specs.Prelude.{⊤}
use Rattle.pipes_time.specs.Interval.{horizon}
use Rattle.pipes_window.specs.declared.item.Item.{Item}
use Rattle.pipes_window.specs.declared.item.Item.TheVariants as items
use Rattle.pipes_window.specs.declared.kind.WindowKind.{WindowKind}
use Rattle.pipes_window.specs.declared.kind.WindowKind.TheVariants.{Time, Slide, Count}
use Rattle.pipes_window.specs.declared.row.Row.{Row}
use Rattle.pipes_window.specs.Items.{rows_of, item_stamp, last_stamp, RisesFrom}
use Rattle.pipes_window.specs.Windows.{waiting_of}

-- the same of rows alone
abbrev pub RowsFrom : ℕ → List Row → Type 0
RowsFrom low [] = ⊤
RowsFrom low (row ∷ rest) = (low ≤ row.stamp) × (row.stamp < horizon) × RowsFrom row.stamp rest

-- no stamp is above this one
abbrev pub RowsUpTo : ℕ → List Row → Type 0
RowsUpTo high [] = ⊤
RowsUpTo high (row ∷ rest) = (row.stamp ≤ high) × RowsUpTo high rest

pub rows_lower : (low high : ℕ) (rows : List Row) → low ≤ high → RowsFrom high rows
    → RowsFrom low rows
rows_lower low high [] h up = tt
rows_lower low high (row ∷ rest) h up = (let l = up.0 in omega arith, up.1, up.2)

pub rows_rise : (low : ℕ) (source : List Item) → RisesFrom low source
    → RowsFrom low (rows_of source)
rows_rise low [] up = tt
rows_rise low (items.Row stamp tuple ∷ rest) up = (up.0, up.1, rows_rise stamp rest up.2)
rows_rise low (items.Beat stamp ∷ rest) up = rows_lower low stamp (rows_of rest) up.0
    (rows_rise stamp rest up.2)

pub rows_of-append : (source more : List Item)
    → rows_of (source ++ more) ≡ rows_of source ++ rows_of more
rows_of-append [] more = refl
rows_of-append (items.Row stamp tuple ∷ rest) more = ap
    (λ (l : List Row). record { stamp = stamp; tuple = tuple } ∷ l) (rows_of-append rest more)
rows_of-append (items.Beat stamp ∷ rest) more = rows_of-append rest more

pub last_stamp-append : (source : List Item) (item : Item)
    → last_stamp (source ++ item ∷ []) ≡ max (last_stamp source) (item_stamp item)
last_stamp-append [] item = omega arith
last_stamp-append (first ∷ rest) item = let more = last_stamp-append rest item in omega arith

-- the rows of items have no stamp above the last one
pub rows_up_to : (high : ℕ) (source : List Item) → last_stamp source ≤ high
    → RowsUpTo high (rows_of source)
rows_up_to high [] h = tt
rows_up_to high (items.Row stamp tuple ∷ rest) h = (omega arith, rows_up_to high rest (omega arith))
rows_up_to high (items.Beat stamp ∷ rest) h = rows_up_to high rest (omega arith)

-- one item more
pub rises_more : (low : ℕ) (source : List Item) (item : Item) → RisesFrom low source
    → low ≤ item_stamp item → last_stamp source ≤ item_stamp item → item_stamp item < horizon
    → RisesFrom low (source ++ item ∷ [])
rises_more low [] item up h last below = (h, below, tt)
rises_more low (first ∷ rest) item up h last below =
    (up.0, up.1, rises_more (item_stamp first) rest item up.2 (omega arith) (omega arith) below)

-- what follows rises from the last stamp on
pub rises_after : (low : ℕ) (source more : List Item) → RisesFrom low (source ++ more)
    → RisesFrom (max low (last_stamp source)) more
rises_after low [] more up =
    let same : max low 0 ≡ low = omega arith in
    subst (λ (l : ℕ). RisesFrom l more) (sym same) up
rises_after low (first ∷ rest) more up =
    let l = up.0 in
    let same : max low (max (item_stamp first) (last_stamp rest)) ≡ max (item_stamp first)
    (last_stamp rest) = omega arith in
    subst (λ (l : ℕ). RisesFrom l more) (sym same) (rises_after (item_stamp first) rest more up.2)

-- the stamps of a part at the end rise too
pub rows_drop : (low k : ℕ) (rows more : List Row) → RowsFrom low (rows ++ more)
    → RowsFrom low (drop k rows ++ more)
rows_drop low zero rows more up = up
rows_drop low (suc k) [] more up = up
rows_drop low (suc k) (row ∷ rest) more up = rows_lower low row.stamp (drop k rest ++ more) up.0
    (rows_drop row.stamp k rest more up.2)

pub rows_end : (low : ℕ) (rows more : List Row) → RowsFrom low (rows ++ more) → RowsFrom low more
rows_end low [] more up = up
rows_end low (row ∷ rest) more up = rows_lower low row.stamp more up.0
    (rows_end row.stamp rest more up.2)

pub up_to_drop : (high k : ℕ) (rows : List Row) → RowsUpTo high rows → RowsUpTo high (drop k rows)
up_to_drop high zero rows up = up
up_to_drop high (suc k) [] up = up
up_to_drop high (suc k) (row ∷ rest) up = up_to_drop high k rest up.1

pub waiting_rise : (kind : WindowKind) (low : ℕ) (rows more : List Row)
    → RowsFrom low (rows ++ more) → RowsFrom low (waiting_of kind rows ++ more)
waiting_rise (Time size) low rows more up = rows_end low rows more up
waiting_rise (Slide size slide) low rows more up = rows_end low rows more up
waiting_rise (Count n) low rows more up = rows_drop low (length rows - n) rows more up

pub waiting_up_to : (kind : WindowKind) (high : ℕ) (rows : List Row) → RowsUpTo high rows
    → RowsUpTo high (waiting_of kind rows)
waiting_up_to (Time size) high rows up = tt
waiting_up_to (Slide size slide) high rows up = tt
waiting_up_to (Count n) high rows up = up_to_drop high (length rows - n) rows up

-- a row that is there lies below the horizon
pub slice_get-below : (low i : ℕ) (rows : List Row) (row : Row) → RowsFrom low rows
    → slice_get rows i ≡ Some row → row.stamp < horizon
slice_get-below low i [] row up e = cc
slice_get-below low zero (first ∷ rest) row up e =
    let same : first ≡ row = cc in
    let below = up.1 in
    subst (λ (r : Row). r.stamp < horizon) same below
slice_get-below low (suc i) (first ∷ rest) row up e = slice_get-below first.stamp i rest row up.2 e
