use Rattle.std.proofs.Common.{◌∙◌}
use Rattle.pipes_flat.specs.UnionLaw.{union_beat}
use Rattle.pipes_flat.proofs.union.UnionOperator.beat_now.Goals as goal

pub returns : goal.returns
returns c = λ taken sent s. c.least.ensures ∙ union_beat c.args.self.now taken sent s
