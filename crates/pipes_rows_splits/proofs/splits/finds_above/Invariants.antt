use Rattle.pipes_split.specs.Seats.{IsSeatOf}
use Rattle.pipes_rows_splits.proofs.splits.finds_above.Given as goal

abbrev pub invariant-ends : goal.invariant-ends
invariant-ends l = IsSeatOf l.book l.seat
