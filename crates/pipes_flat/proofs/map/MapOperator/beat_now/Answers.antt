use Rattle.std.proofs.Common.{◌∙◌}
use Rattle.pipes_flat.specs.Maps.{map_beat}
use Rattle.pipes_flat.proofs.map.MapOperator.beat_now.Goals as goal

pub returns : goal.returns
returns c = λ taken sent s. c.beat_now.ensures ∙ map_beat c.args.self.now taken sent s
