use Rattle.pipes_box.specs.Shapes.{shape_of}
use Rattle.pipes_works.specs.Sources.{by_leaf}
use Rattle.pipes_works.proofs.works.Works.is_ended.Goals as goal

pub returns : goal.returns
returns c = λ schemas plan by_source got s.
    c.is_ended.ensures schemas plan (by_leaf (shape_of schemas plan) by_source) got s.plan_box
