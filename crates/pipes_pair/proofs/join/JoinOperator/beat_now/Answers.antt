use Rattle.std.proofs.Common.{◌∙◌}
use Rattle.pipes_pair.specs.JoinLaw.{join_beat}
use Rattle.pipes_pair.proofs.join.JoinOperator.beat_now.Goals as goal

pub returns : goal.returns
returns c = λ taken sent s. c.least.ensures ∙ join_beat c.args.self.now taken sent s
