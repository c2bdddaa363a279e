-- Lists at columns, which are places counted from 0.
use Rattle.std.specs.Prelude.{ℕ, ◌<◌, List, Option, length, slice_get, nat_le, All, find}
use Rattle.std.specs.Prelude.{filter_map}

module _ {X : Type 0} where
  -- the item at each column that is there, in the order of the columns
  abbrev pub at_columns : List ℕ → List X → List X
  at_columns columns items = filter_map (slice_get items) columns

  -- every column is there
  abbrev pub HasColumns : List ℕ → List X → Type 0
  HasColumns columns items = All (λ column. column < length items) columns

  -- the first column that is not there
  abbrev pub missing_column : List ℕ → List X → Option ℕ
  missing_column columns items = find (nat_le (length items)) columns
