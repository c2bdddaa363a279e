use Rattle.std.proofs.Common.{refl}
use Rattle.pipes_group.specs.DistinctLaw.{distinct_new}
use Rattle.pipes_group.proofs.distinct.Distinct.new.Goals as goal

pub returns-clause-stands : goal.returns-clause-stands
returns-clause-stands c = distinct_new _ refl c.new-watch.ensures c.new-coverage.ensures.table
    c.new-coverage.ensures.dues c.new-coverage.ensures.unique
