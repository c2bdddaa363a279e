use Rattle.pipes_box.specs.Boxes.{IsSound}
use Rattle.pipes_rows_plans.proofs.kinds.sent.Given as goal

abbrev pub invariant-loop-leaf : goal.invariant-loop-leaf
invariant-loop-leaf g l = IsSound l.b
