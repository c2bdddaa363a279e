-- Rows by their keys.
use Rattle.std.specs.Prelude.{ℕ, zero, suc, ◌≡◌, List, [], ◌∷◌, ◌++◌, map}
use Rattle.std.specs.declared.vec.Vec.{Vec}
use Rattle.std.specs.declared.alloc.Global.{Global}
use Rattle.std.specs.List.{filter}
use Rattle.pipes_tuple.specs.Equal.{tuple_eq}
use Rattle.pipes_expr.specs.ExprValue.{Row, column}
use Rattle.pipes_relation.specs.declared.lists.Pair.{Pair}
use Rattle.pipes_relation.specs.Relations.{distinct, bag_lists}

-- the lists, with the row after those at the place
abbrev pub put_at : List (List Row) → ℕ → Row → List (List Row)
put_at [] i row = []
put_at (g ∷ gs) zero row = (g ++ row ∷ []) ∷ gs
put_at (g ∷ gs) (suc i) row = g ∷ put_at gs i row

-- the rows that have the key
abbrev pub with_value : (Row → Row) → List Row → Row → List Row
with_value key_of rows key = filter (λ row. tuple_eq (key_of row) key) rows

-- the keys of the rows in order of first appearance, and the rows of each
pub record IsTable (key_of : Row → Row) (rows keys : List Row)
    (groups : List (Vec Row Global)) : Type 0 where
  pub keys_are : keys ≡ distinct (map key_of rows)
  pub groups_are : bag_lists groups ≡ map (with_value key_of rows) keys

-- a table of any rows becomes that of these rows and one more with the key
abbrev pub AddsRow : Row → Row → List Row → List (Vec Row Global)
    → List Row → List (Vec Row Global) → Type 0
AddsRow key row keys groups keys' groups' = (key_of : Row → Row) (rows : List Row)
    → key ≡ key_of row
    → IsTable key_of rows keys groups → IsTable key_of (rows ++ row ∷ []) keys' groups'

-- the values in the columns, in their order
abbrev pub values_in : List ℕ → Row → Row
values_in columns row = map (column row) columns

-- the columns of the pairs, on each side
abbrev pub left_columns : List Pair → List ℕ
left_columns pairs = map (λ p. p.left) pairs

abbrev pub right_columns : List Pair → List ℕ
right_columns pairs = map (λ p. p.right) pairs
