-- What the code's changes of columns mean.
use Rattle.std.specs.Prelude.{ℕ, Option}
use Rattle.pipes_expr.specs.declared.expr.Expr.{Expr}
use Rattle.pipes_rewrite.specs.declared.change.Change.{Change}
use Rattle.pipes_rewrite.specs.declared.change.Change.TheVariants as change
use Rattle.pipes_rewrite.specs.Changes.{raise_by, lower_by, only_below, exchange_sides, column_in}
use Rattle.pipes_rewrite.specs.Changes.{expr_in}

-- what comes in place of the column
abbrev pub meant : Change → ℕ → Option Expr
meant (change.Up n) = raise_by n
meant (change.Down n) = lower_by n
meant (change.Below n) = only_below n
meant (change.Exchange left right) = exchange_sides left right
meant (change.Picked columns) = column_in columns.now
meant (change.Replaced exprs) = expr_in exprs.now
