use Rattle.std.proofs.Common.{◌≤◌, ◌-◌}
use Rattle.pipes_split.specs.Seats.{IsSameSeat}
use Rattle.pipes_split.specs.Knowledge.{seat_knows}
use Rattle.pipes_parcel.specs.Placed.{Begins, RaisesNone}
use Rattle.pipes_parcel.proofs.cutter.first_epoch.Given as goal

abbrev pub invariant-epochs : goal.invariant-epochs
invariant-epochs l = record {
  seat : IsSameSeat l.initial.seat l.seat;
  raises : RaisesNone (seat_knows l.initial.seat) (seat_knows l.seat);
  begins : Begins (seat_knows l.seat) l.first l.low;
  low : l.low ≤ l.start;
}

abbrev pub decreases-epochs : goal.decreases-epochs
decreases-epochs l = 1024 - l.first
