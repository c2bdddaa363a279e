use Rattle.pipes_link.specs.Ends.{SameOutlet}
use Rattle.pipes_rows_plans.proofs.links.count_in.Given as goal

abbrev pub invariant-loop : goal.invariant-loop
invariant-loop l = SameOutlet l.initial.outlet l.outlet
