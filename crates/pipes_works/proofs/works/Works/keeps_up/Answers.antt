use Rattle.pipes_box.specs.Shapes.{shape_of}
use Rattle.pipes_works.specs.Sources.{by_leaf}
use Rattle.pipes_works.proofs.SourceLaw.{keeps-up, all-ended}
use Rattle.pipes_works.proofs.works.Works.keeps_up.Goals as goal

pub returns-clause-prompt : goal.returns-clause-prompt
returns-clause-prompt c = λ schemas plan by_source got s.
    keeps-up schemas plan by_source got
    (c.keeps_up.ensures.prompt schemas plan (by_leaf (shape_of schemas plan) by_source) got
    s.plan_box)

pub returns-clause-keeps_none : goal.returns-clause-keeps_none
returns-clause-keeps_none c = λ schemas plan by_source got s ended.
    c.keeps_up.ensures.keeps_none schemas plan (by_leaf (shape_of schemas plan) by_source) got
    s.plan_box (all-ended schemas plan by_source got ended)
