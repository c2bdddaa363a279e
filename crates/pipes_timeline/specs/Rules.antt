-- Operators that answer the rows of each key together.
use Rattle.std.specs.Prelude.{ℕ, ◌≡◌, ◌<◌, true, false, cond, eqb, List}
use Rattle.std.specs.Prelude.{map}
use Rattle.std.specs.List.{filter}
use Rattle.pipes_tuple.specs.declared.value.Value.{Value}
use Rattle.pipes_tuple.specs.Equal.{tuple_eq}
use Rattle.pipes_tuple.specs.Bag.{count}
use Rattle.pipes_stream.specs.declared.Elem.{Elem}
use Rattle.pipes_stream.specs.Snapshot.{is_held}
use Rattle.pipes_stream.specs.Weights.{weigh}

abbrev pub Row : Type 0
Row = List Value

-- a bag of rows for each port
abbrev pub RowBags : Type 0
RowBags = ℕ → List Row

-- a port and an element that came there
abbrev pub Arrival : Type 0
Arrival = ℕ × Elem

-- the rows of the elements, at each port
abbrev pub rows_at : List Arrival → RowBags
rows_at es port = map (λ s. s.1.tuple) (filter (λ s. eqb s.0 port) es)

-- the elements that are valid at the instant
abbrev pub valid_at : ℕ → List Arrival → List Arrival
valid_at t es = filter (λ s. is_held s.1.span t) es

-- both have equally many of each row with the key
abbrev pub SameOfKey : (Row → Row) → Row → RowBags → RowBags → Type 0
SameOfKey key k bags others = (port : ℕ) (row : Row) → tuple_eq (key row) k ≡ true
    → count row (bags port) ≡ count row (others port)

-- no row has the key
abbrev pub NoneOfKey : (Row → Row) → Row → RowBags → Type 0
NoneOfKey key k bags = (port : ℕ) (row : Row) → tuple_eq (key row) k ≡ true
    → count row (bags port) ≡ 0

-- 1 for a row with the key
abbrev pub row_of_key : (Row → Row) → Row → Row → ℕ
row_of_key key k row = cond (tuple_eq (key row) k) 1 0

-- What the rows with one key give together, whatever the other rows are.
pub record KeyRule : Type 0 where
  -- the key of a row that came, and of a row of the answer
  pub key : Row → Row
  pub key_of_answer : Row → Row
  -- how often a row is in the answer of the key
  pub gives : Row → RowBags → Row → ℕ
  pub own : (k x : Row) (bags : RowBags) → tuple_eq (key_of_answer x) k ≡ false → gives k bags x ≡ 0
  pub local : (k : Row) (bags others : RowBags) → SameOfKey key k bags others → (x : Row)
      → gives k bags x ≡ gives k others x
  -- where there is an answer, the left port has a row with the key
  pub from : (k x : Row) (bags : RowBags) → 0 < gives k bags x
      → 0 < weigh (row_of_key key k) (bags 0)
