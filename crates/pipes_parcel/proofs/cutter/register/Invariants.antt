use Rattle.std.proofs.Common.{◌≤◌}
use Rattle.pipes_split.specs.Seats.{IsSameSeat}
use Rattle.pipes_split.specs.Knowledge.{seat_knows}
use Rattle.pipes_split.specs.Views.{last_epoch}
use Rattle.pipes_parcel.specs.Pieces.{AllClosed, RaisesEnd}
use Rattle.pipes_parcel.proofs.cutter.register.Given as goal

abbrev pub invariant-loop-epoch : goal.invariant-loop-epoch
invariant-loop-epoch l = record {
  early : l.epoch ≤ last_epoch;
  seat : IsSameSeat l.initial.seat l.seat;
  raises : RaisesEnd (seat_knows l.initial.seat) l.end (seat_knows l.seat);
  closed : AllClosed (seat_knows l.seat) l.epoch;
}
