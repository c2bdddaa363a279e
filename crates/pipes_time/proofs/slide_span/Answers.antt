use Rattle.std.proofs.Common.{ℕ, min, ap, ◌∙◌}
use Rattle.pipes_time.specs.Interval.{horizon}
use Rattle.pipes_time.proofs.Slides.{slide_part}
use Rattle.pipes_time.proofs.slide_span.Goals as goal

pub returns-clause-instants : goal.returns-clause-instants
returns-clause-instants c = λ size slide.
    let end = c.min-end.ensures ∙ ap (λ (n : ℕ). min n horizon) c.next_slide.ensures in
    slide_part c.args.stamp c.args.size c.args.slide c.next_slide-2.result c.min-end.result
    c.new.result
    slide.0 c.next_slide-2.ensures end c.new.ensures.exact c.new.ensures.value
