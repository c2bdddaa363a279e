use Rattle.std.proofs.Common.{◌∙◌}
use Rattle.pipes_stream.specs.Lists.{elements}
use Rattle.pipes_flat.specs.Tasks.{filter_task}
use Rattle.pipes_flat.specs.Each.{kept}
use Rattle.pipes_flat.specs.OneByOne.{made_one_by_one, kept_one}
use Rattle.pipes_flat.proofs.filter.Filter.sends_one_by_one.Goals as goal

pub returns : goal.returns
returns c = λ taken sent s.
    s.elements_are
    ∙ made_one_by_one (kept c.args.self.now.condition.expr)
    (filter_task c.args.self.now.condition.expr c.args.self.now.condition.schema)
    (kept_one c.args.self.now.condition.expr) (elements (taken 0))
