-- Rows that are drawn from a seed.
use Rattle.std.specs.Prelude.{ℕ, zero, suc, ◌+◌, ◌*◌, ◌/◌, ◌%◌, ◌^◌, ◌==◌, Bool, List, [], ◌∷◌}

-- the state of the draws after one more
abbrev pub stepped : ℕ → ℕ
stepped x = (x * 6364136223846793005 + 1442695040888963407) % 2 ^ 64

-- what a draw of n gives, by the state after it
abbrev pub drawn : ℕ → ℕ → ℕ
drawn n x = x / 2 ^ 33 % n

-- a row, and whether it is of the asks, or else of the bids
pub record Row : Type 0 where
  pub stamp : ℕ
  pub is_ask : Bool
  pub item : ℕ
  pub price : ℕ

-- the state after the four draws of a row
abbrev pub after_row : ℕ → ℕ
after_row x = stepped (stepped (stepped (stepped x)))

-- the row that is drawn from a state, after a row with this stamp
abbrev pub row_from : ℕ → ℕ → Row
row_from x stamp = record {
  stamp = stamp + drawn 4 (stepped x);
  is_ask = drawn 2 (stepped (stepped x)) == 1;
  item = drawn 20 (stepped (stepped (stepped x)));
  price = drawn 100 (stepped (stepped (stepped (stepped x))));
}

-- so many rows
abbrev pub rows_from : ℕ → ℕ → ℕ → List Row
rows_from zero x stamp = []
rows_from (suc n) x stamp =
    row_from x stamp ∷ rows_from n (after_row x) (row_from x stamp).stamp

-- so many rows from a seed
abbrev pub rows_of : ℕ → ℕ → List Row
rows_of seed rows = rows_from rows seed 0
