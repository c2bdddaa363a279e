-- Bags: lists of tuples of which only the counts matter.
use Rattle.std.specs.Prelude.{◌≡◌, ℕ, List, count_by}
use Rattle.pipes_tuple.specs.declared.value.Value.{Value}
use Rattle.pipes_tuple.specs.Equal.{tuple_eq}

-- how often the tuple occurs
abbrev pub count : List Value → List (List Value) → ℕ
count tuple rows = count_by (λ row. tuple_eq row tuple) rows

-- equal as bags: every tuple occurs equally often in both
pub record SameBag (xs ys : List (List Value)) : Type 0 where
  pub counts : (tuple : List Value) → count tuple xs ≡ count tuple ys
