use Rattle.std.proofs.Common.{ap}
use Rattle.pipes_flat.specs.Typed.{ConditionOver}
use Rattle.pipes_flat.specs.Tasks.{filter_task}
use Rattle.pipes_flat.specs.Each.{kept}
use Rattle.pipes_flat.specs.EachLaw.{each_new}
use Rattle.pipes_flat.proofs.filter.Filter.new.Goals as goal

pub returns-clause-task : goal.returns-clause-task
returns-clause-task c = ap (λ (k : ConditionOver). filter_task k.expr k.schema)
    c.new-condition.ensures

pub returns-clause-stands : goal.returns-clause-stands
returns-clause-stands c = each_new (kept c.new-condition.result.expr) c.new-condition.result.schema
    c.new-watch.result c.new-watch.ensures
