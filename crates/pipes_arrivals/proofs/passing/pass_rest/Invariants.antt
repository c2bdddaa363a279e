use Rattle.std.proofs.Common.{◌≡◌, ◌++◌, List, length}
use Rattle.pipes_stream.specs.declared.Elem.{Elem}
use Rattle.pipes_window.specs.Items.{RisesFrom}
use Rattle.pipes_arrivals.proofs.Through.{Moving}
use Rattle.pipes_arrivals.proofs.passing.pass_rest.Given as goal

abbrev pub invariant-rest : goal.invariant-rest
invariant-rest l = record {
  rises : RisesFrom l.window.last l.waiting;
  kind : l.window.kind ≡ l.initial.window.kind;
  ended : l.window.ended ≡ l.initial.window.ended;
  longer : (more : List Elem) × (l.out.items ≡ l.initial.out.items ++ more);
  left : Moving l.initial.waiting l.waiting l.initial.window l.window l.initial.out.items
      l.out.items;
}

abbrev pub decreases-rest : goal.decreases-rest
decreases-rest l = length l.waiting
