use Rattle.std.proofs.Common.{◌≡◌, true}
use Rattle.pipes_split.specs.Seats.{IsSeatOf}
use Rattle.pipes_split.specs.Knowledge.{seat_knows}
use Rattle.pipes_rows_splits.proofs.splits.close_all.Given as goal

abbrev pub invariant-loop-step : goal.invariant-loop-step
invariant-loop-step l = record {
  seat : IsSeatOf l.book l.seat;
  closes : (seat_knows l.seat).closes ≡ true;
}
