-- The columns of one row after those of another.
use Rattle.std.proofs.Common.{◌≡◌, ℕ, ◌+◌, ◌-◌, ◌≤◌, ◌<◌, [], ◌++◌, length, get_or, sym, ◌∙◌, ap}
use Rattle.std.proofs.Common.{arith, append-nil}
use Rattle.std.proofs.lemmas.Option.{unwrap_or-slice_get}
use Rattle.std.proofs.lemmas.List.{get_or_append_left, get_or-append-add}
use Rattle.pipes_expr.specs.ExprValue.{Row, column, no_value}

-- a row with no other after it
pub alone : (row : Row) → row ++ [] ≡ row
alone row = append-nil row

-- a column of the left row
pub column_left : (xs ys : Row) (i : ℕ) → i < length xs → column (xs ++ ys) i ≡ column xs i
column_left xs ys i h =
    unwrap_or-slice_get (xs ++ ys) i no_value ∙ get_or_append_left xs ys no_value i h
    ∙ sym (unwrap_or-slice_get xs i no_value)

-- a column of the right one
pub column_right : (xs ys : Row) (i : ℕ) → length xs ≤ i
    → column (xs ++ ys) i ≡ column ys (i - length xs)
column_right xs ys i h =
    let past : i ≡ length xs + (i - length xs) = omega arith in
    unwrap_or-slice_get (xs ++ ys) i no_value
    ∙ ap (λ (n : ℕ). get_or (xs ++ ys) n no_value) past
    ∙ get_or-append-add xs ys (i - length xs) no_value
    ∙ sym (unwrap_or-slice_get ys (i - length xs) no_value)

pub ruleset columns = (column_left, column_right)
