use Rattle.std.proofs.Common.{◌≡◌, ◌≤◌, length}
use Rattle.pipes_sweep.specs.Areas.{until}
use Rattle.pipes_sweep.proofs.area.Area.purge.Given as goal

abbrev pub invariant-loop : goal.invariant-loop
invariant-loop l = record {
  columns : l.self.columns ≡ l.initial.self.columns;
  rest : until l.t l.self.elems ≡ until l.t l.initial.self.elems;
  fewer : length l.self.elems ≤ length l.initial.self.elems;
}

abbrev pub decreases-loop : goal.decreases-loop
decreases-loop l = length l.self.elems
