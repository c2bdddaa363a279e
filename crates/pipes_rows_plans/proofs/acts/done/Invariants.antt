use Rattle.pipes_box.specs.Boxes.{IsSound}
use Rattle.pipes_rows_plans.proofs.acts.done.Given as goal

abbrev pub invariant-loop-act : goal.invariant-loop-act
invariant-loop-act g l = IsSound l.b
