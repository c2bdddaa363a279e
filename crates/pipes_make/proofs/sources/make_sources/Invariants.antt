use Rattle.pipes_make.proofs.Making.{Making}
use Rattle.pipes_make.proofs.sources.make_sources.Given as goal

abbrev pub invariant-rows : goal.invariant-rows
invariant-rows l = Making l.seed l.rows l.left l.draws.state l.draws.stamp l.sources.bids.items
    l.sources.asks.items

abbrev pub decreases-rows : goal.decreases-rows
decreases-rows l = l.left
