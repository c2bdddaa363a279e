use Rattle.pipes_seam.specs.Seams.{GivesFresh}
use Rattle.pipes_seam.proofs.seam.give_fresh.Given as goal

abbrev pub invariant-loop-message : goal.invariant-loop-message
invariant-loop-message l = record {
  gives : GivesFresh l.initial.merge l.merge l.yielded l.initial.out.items l.out.items;
}
