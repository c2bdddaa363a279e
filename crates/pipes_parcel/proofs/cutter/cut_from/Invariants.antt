use Rattle.std.proofs.Common.{◌≡◌, ◌≤◌}
use Rattle.pipes_split.specs.Seats.{IsSameSeat}
use Rattle.pipes_split.specs.Knowledge.{seat_knows}
use Rattle.pipes_split.specs.Views.{last_epoch}
use Rattle.pipes_parcel.specs.Pieces.{AllClosed, MayStart, RaisesEnd}
use Rattle.pipes_parcel.specs.Placed.{CutSoFar}
use Rattle.pipes_parcel.proofs.cutter.cut_from.Given as goal

abbrev pub invariant-loop-epoch : goal.invariant-loop-epoch
invariant-loop-epoch l = record {
  early : l.epoch ≤ last_epoch;
  seat : IsSameSeat l.initial.seat l.seat;
  raises : RaisesEnd (seat_knows l.initial.seat) l.end (seat_knows l.seat);
  closed : AllClosed (seat_knows l.seat) l.epoch;
  end : l.rest.span.end ≡ l.end;
  start : MayStart (seat_knows l.seat) l.epoch l.rest.span.start;
  so_far : CutSoFar (seat_knows l.seat) l.first l.initial.rest l.epoch l.rest l.initial.out.items
      l.out.items;
}
