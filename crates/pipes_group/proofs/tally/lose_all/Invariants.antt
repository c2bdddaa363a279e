use Rattle.pipes_group.proofs.PartTurns.{Lost}
use Rattle.pipes_group.proofs.tally.lose_all.Given as goal

abbrev pub invariant-loop-part : goal.invariant-loop-part
invariant-loop-part l = Lost l.tuple l.part-index l.initial.parts l.parts
