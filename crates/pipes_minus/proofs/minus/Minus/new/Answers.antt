use Rattle.std.proofs.Common.{refl}
use Rattle.pipes_minus.proofs.Stepping.{minus_new}
use Rattle.pipes_minus.proofs.minus.Minus.new.Goals as goal

pub returns-clause-stands : goal.returns-clause-stands
returns-clause-stands c =
    minus_new _ refl c.new-left.ensures c.new-right.ensures c.new-waits.ensures
    c.new-line.ensures.instant c.new-line.ensures.slots c.new-line.ensures.pieces
    c.new-line.ensures.ends
