use Rattle.std.proofs.Common.{◌∙◌, refl}
use Rattle.pipes_stream.specs.Lists.{elements}
use Rattle.pipes_flat.specs.Tasks.{map_task}
use Rattle.pipes_flat.specs.Each.{changed}
use Rattle.pipes_flat.specs.OneByOne.{made_one_by_one}
use Rattle.pipes_flat.proofs.map.Map.sends_one_by_one.Goals as goal

pub returns : goal.returns
returns c = λ taken sent s.
    s.each.elements_are ∙ made_one_by_one (changed c.args.self.now.projection.exprs)
    (map_task c.args.self.now.projection.exprs c.args.self.now.projection.schema) (λ row. refl)
    (elements (taken 0))
