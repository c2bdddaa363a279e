use Rattle.std.proofs.Common.{◌<◌}
use Rattle.pipes_split.specs.Seats.{IsSeatOf}
use Rattle.pipes_rows_splits.proofs.splits.raise_all.Given as goal

abbrev pub invariant-loop-end : goal.invariant-loop-end
invariant-loop-end l = record { seat : IsSeatOf l.book l.seat; epoch : l.epoch < 1025 }
