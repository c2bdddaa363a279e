use Rattle.pipes_moving.specs.Moves.{IsWholeMoving}
use Rattle.pipes_moving.specs.Steps.{CountsStay}
use Rattle.pipes_live.specs.Deeds.{Opens}
use Rattle.pipes_live.proofs.openings.open_each.Given as goal

abbrev pub invariant-loop-source : goal.invariant-loop-source
invariant-loop-source g l = record {
  whole : IsWholeMoving l.moving;
  count : CountsStay l.initial.moving l.moving;
  opens : Opens l.initial.moving l.moving l.sources l.split l.source;
}
