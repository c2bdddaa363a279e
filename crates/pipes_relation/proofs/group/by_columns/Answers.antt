use Rattle.pipes_tuple.specs.Columns.{at_columns}
use Rattle.pipes_relation.proofs.group.by_columns.Goals as goal

pub loop-row-init : goal.loop-row-init
loop-row-init c = c.new-table.ensures (at_columns c.args.columns.now)
