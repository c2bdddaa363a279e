use Rattle.pipes_split.specs.Seats.{IsSeatOf}
use Rattle.pipes_rows_splits.proofs.splits.finds_all.Given as goal

abbrev pub invariant-splits : goal.invariant-splits
invariant-splits l = IsSeatOf l.book l.seat
