use Rattle.std.proofs.Common.{◌≡◌, ◌-◌, map, replicate, reverse}
use Rattle.pipes_split.specs.Views.{seat_view, blank, first_view}
use Rattle.pipes_split.specs.Seats.{IsSeatOf, AreSeatsOf}
use Rattle.pipes_split.proofs.book.SplitBook.new.Given as goal

abbrev pub invariant-loop : goal.invariant-loop
invariant-loop l = record {
  first : IsSeatOf l.book.value l.first;
  closes : seat_view l.first ≡ first_view;
  each : AreSeatsOf l.book.value (reverse l.list.items);
  views : map seat_view (reverse l.list.items) ≡ replicate (l.counter - 1) blank;
}
