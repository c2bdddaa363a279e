use Rattle.std.proofs.Common.{◌≡◌, length, List, ℕ, Option}
use Rattle.pipes_window.specs.declared.item.Item.{Item}
use Rattle.pipes_works.specs.Standing.{IsWhole}
use Rattle.pipes_inline.specs.Standing.{Start, Ends}
use Rattle.pipes_inline.proofs.ending.finish_all.Given as goal

abbrev pub invariant-places : goal.invariant-places
invariant-places g l = record {
  whole : IsWhole l.underway.works;
  count : length l.underway.intakes.items ≡ length l.initial.underway.intakes.items;
  results : l.underway.results ≡ l.initial.underway.results;
  ends : (start : Start) (now : Option (List ℕ)) (taken : ℕ → List Item)
      → Ends start 0 now taken l.initial.underway → Ends start l.place now taken l.underway;
}
