use Rattle.pipes_box.specs.Shapes.{shape_of}
use Rattle.pipes_works.specs.Sources.{by_leaf}
use Rattle.pipes_works.proofs.SourceLaw.{answers-sources}
use Rattle.pipes_works.proofs.works.Works.answers.Goals as goal

pub returns : goal.returns
returns c = λ schemas plan by_source got s.
    answers-sources schemas plan by_source got
    (c.answers.ensures.answer schemas plan (by_leaf (shape_of schemas plan) by_source) got
    s.plan_box)
    (c.answers.ensures.algebra schemas plan (by_leaf (shape_of schemas plan) by_source) got
    s.plan_box)
