use Rattle.pipes_group.proofs.PartTurns.{Gained}
use Rattle.pipes_group.proofs.tally.gain_all.Given as goal

abbrev pub invariant-loop-part : goal.invariant-loop-part
invariant-loop-part l = Gained l.tuple l.part-index l.initial.parts l.parts
