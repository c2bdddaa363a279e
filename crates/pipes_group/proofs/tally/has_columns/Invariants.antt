use Rattle.std.proofs.Common.{ℕ, ◌<◌, length, get_or}
use Rattle.pipes_group.proofs.tally.has_columns.Given as goal

abbrev pub invariant-loop-column : goal.invariant-loop-column
invariant-loop-column l =
    (k : ℕ) → k < l.column-index → get_or l.columns k 0 < length l.tuple
