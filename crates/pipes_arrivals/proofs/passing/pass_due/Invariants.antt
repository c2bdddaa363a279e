use Rattle.std.proofs.Common.{◌≡◌, ◌≤◌, ◌++◌, List, length}
use Rattle.pipes_stream.specs.declared.Elem.{Elem}
use Rattle.pipes_window.specs.Items.{RisesFrom}
use Rattle.pipes_arrivals.proofs.Through.{Leaving}
use Rattle.pipes_arrivals.proofs.passing.pass_due.Given as goal

abbrev pub invariant-due : goal.invariant-due
invariant-due l = record {
  rises : RisesFrom l.window.last l.waiting;
  kind : l.window.kind ≡ l.initial.window.kind;
  ended : l.window.ended ≡ l.initial.window.ended;
  longer : (more : List Elem) × (l.out.items ≡ l.initial.out.items ++ more);
  last : l.window.last ≤ l.floor;
  left : Leaving l.floor l.initial.waiting l.waiting l.initial.window l.window l.initial.out.items
      l.out.items;
}

abbrev pub decreases-due : goal.decreases-due
decreases-due l = length l.waiting
