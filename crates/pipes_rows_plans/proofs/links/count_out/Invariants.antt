use Rattle.pipes_link.specs.Ends.{SameInlet}
use Rattle.pipes_rows_plans.proofs.links.count_out.Given as goal

abbrev pub invariant-loop : goal.invariant-loop
invariant-loop l = SameInlet l.initial.inlet l.inlet
