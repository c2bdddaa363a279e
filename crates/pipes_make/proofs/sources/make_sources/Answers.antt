use Rattle.std.proofs.Common.{rules}
use Rattle.pipes_make.proofs.Making.{rises, turned}
use Rattle.pipes_make.proofs.sources.make_sources.Goals as goal

pub returns-in_err-sources-clause-ordered : goal.returns-in_err-sources-clause-ordered
returns-in_err-sources-clause-ordered c = rises c.args.rows c.args.seed 0

pub returns-in_err-add_row-clause-ordered : goal.returns-in_err-add_row-clause-ordered
returns-in_err-add_row-clause-ordered c = rises c.args.rows c.args.seed 0

pub rows-preserved : goal.rows-preserved
rows-preserved c =
    turned c.args.seed c.args.rows c.rows.left c.rows.draws.state c.rows.draws.stamp
    c.add_row.new.draws.state c.add_row.new.draws.stamp c.rows.sources.bids.items
    c.rows.sources.asks.items c.add_row.new.sources.bids.items c.add_row.new.sources.asks.items
    c.rows.invariant (search rules) c.in_ok-add_row.ensures.state c.in_ok-add_row.ensures.stamp
    c.in_ok-add_row.ensures.near c.in_ok-add_row.ensures.bids c.in_ok-add_row.ensures.asks

pub returns-clause-ordered : goal.returns-clause-ordered
returns-clause-ordered c = rises c.args.rows c.args.seed 0
