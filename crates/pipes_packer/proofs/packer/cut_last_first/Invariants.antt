use Rattle.std.proofs.Common.{length}
use Rattle.pipes_split.specs.Seats.{IsSameSeat}
use Rattle.pipes_split.specs.Knowledge.{seat_knows}
use Rattle.pipes_packer.specs.Packed.{CutsSome}
use Rattle.pipes_packer.proofs.packer.cut_last_first.Given as goal

abbrev pub invariant-elems : goal.invariant-elems
invariant-elems l = record {
  seat : IsSameSeat l.initial.cutter l.cutter;
  cuts : CutsSome (seat_knows l.initial.cutter) (seat_knows l.cutter) l.initial.elems.items
      l.elems.items l.initial.out.items l.out.items;
}

abbrev pub decreases-elems : goal.decreases-elems
decreases-elems l = length l.elems.items
