use Rattle.pipes_relation.specs.Tables.{values_in}
use Rattle.pipes_relation.proofs.join.by_values.Goals as goal

pub loop-row-init : goal.loop-row-init
loop-row-init c = c.new-table.ensures (values_in c.args.columns.now)
