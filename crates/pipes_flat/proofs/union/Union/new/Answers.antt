use Rattle.std.proofs.Common.{refl}
use Rattle.pipes_flat.specs.UnionLaw.{union_new}
use Rattle.pipes_flat.proofs.union.Union.new.Goals as goal

pub returns-clause-stands : goal.returns-clause-stands
returns-clause-stands c = union_new _ refl c.new-left.ensures c.new-right.ensures c.new-hold.ensures
