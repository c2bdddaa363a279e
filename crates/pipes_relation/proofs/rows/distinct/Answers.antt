use Rattle.std.proofs.Common.{sym, ap, ◌∙◌}
use Rattle.pipes_relation.proofs.DistinctRows.{distinct_insert}
use Rattle.pipes_relation.proofs.rows.distinct.Goals as goal

pub loop-row-preserved : goal.loop-row-preserved
loop-row-preserved c =
    distinct_insert c.loop-row.yielded c.in-Some.row c.loop-row.seen.keys c.insert.new.self.keys
    c.loop-row.invariant c.in_ok-insert.ensures.keys
