use Rattle.std.proofs.Common.{◌∷◌, refl, sym, subst, arith}
use Rattle.pipes_group.specs.declared.part.Part.{Part}
use Rattle.pipes_group.specs.Parts.{PartOf, PartLoses}
use Rattle.pipes_group.proofs.PartTurns.{turned_none, lost_next, lost_all}
use Rattle.pipes_group.proofs.tally.lose_all.Goals as goal

pub loop-part-init : goal.loop-part-init
loop-part-init c = turned_none (λ rows. PartOf (c.args.tuple.now ∷ rows)) PartOf c.args.parts.now

pub loop-part-preserved : goal.loop-part-preserved
loop-part-preserved c =
    lost_next c.args.tuple.now c.loop-part.part-index c.args.parts.now c.loop-part.parts _
    c.part-item.result c.lose.new.part (omega arith) c.part-item.is refl
    (subst (λ (p : Part). PartLoses c.args.tuple.now p c.lose.new.part) (sym c.part-item.is)
    c.in_ok-lose.ensures) c.loop-part.invariant

pub returns : goal.returns
returns c =
    lost_all c.args.tuple.now c.loop-part.part-index c.args.parts.now c.loop-part.parts
    (omega arith) c.loop-part.invariant
