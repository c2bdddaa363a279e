use Rattle.std.proofs.Common.{◌≡◌, false}
use Rattle.std.specs.Vec.Iter.{into_iter_items}
use Rattle.pipes_window.specs.Items.{RisesFrom}
use Rattle.pipes_window.specs.State.{WindowHasTaken}
use Rattle.pipes_window.specs.Windows.{known}
use Rattle.pipes_window.proofs.whole.elements.Given as goal

abbrev pub invariant-items : goal.invariant-items
invariant-items l = record {
  taken : WindowHasTaken l.yielded l.window;
  kind : l.window.kind ≡ l.fn.kind;
  goes_on : l.window.ended ≡ false;
  ahead : RisesFrom l.window.last (into_iter_items l.item-iterator);
  sent : l.out.items ≡ known l.fn.kind l.yielded;
}
