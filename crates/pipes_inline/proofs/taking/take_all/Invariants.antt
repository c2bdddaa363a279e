use Rattle.std.proofs.Common.{◌≡◌, ◌≤◌, map, length, List, ℕ}
use Rattle.pipes_works.specs.Standing.{IsWhole}
use Rattle.pipes_results.specs.Kept.{form_of}
use Rattle.pipes_inline.specs.Standing.{Start, GoesOn, AllLater, all_turns}
use Rattle.pipes_inline.proofs.taking.take_all.Given as goal

abbrev pub invariant-turns : goal.invariant-turns
invariant-turns g l = record {
  whole : IsWhole l.underway.works;
  count : length l.srcs ≡ length l.underway.intakes.items;
  form : form_of l.underway.results ≡ form_of l.initial.underway.results;
  goes : (start : Start) → GoesOn start (map g.S.Source.left l.initial.srcs)
      (map g.S.Source.faults l.initial.srcs) (g.K.Sink.written l.initial.out) l.initial.underway
      → GoesOn start (map g.S.Source.left l.srcs) (map g.S.Source.faults l.srcs)
      (g.K.Sink.written l.out) l.underway;
  later : g.K.Sink.faults l.initial.out ≤ g.K.Sink.faults l.out;
  later_read : AllLater (map g.S.Source.faults l.initial.srcs) (map g.S.Source.faults l.srcs);
  name : map g.S.Source.name l.srcs ≡ map g.S.Source.name l.initial.srcs;
  found_at : map g.S.Source.found_at l.srcs ≡ map g.S.Source.found_at l.initial.srcs;
}

abbrev pub decreases-turns : goal.decreases-turns
decreases-turns g l = all_turns l.underway.intakes.items
