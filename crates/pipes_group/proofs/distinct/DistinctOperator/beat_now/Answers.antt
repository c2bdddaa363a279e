use Rattle.std.proofs.Common.{◌∙◌}
use Rattle.pipes_group.specs.DistinctLaw.{distinct_beat}
use Rattle.pipes_group.proofs.distinct.DistinctOperator.beat_now.Goals as goal

pub returns : goal.returns
returns c = λ taken sent s. c.beat_now.ensures ∙ distinct_beat c.args.self.now taken sent s
