use Rattle.std.proofs.Common.{◌∙◌}
use Rattle.pipes_flat.specs.Filters.{filter_beat}
use Rattle.pipes_flat.proofs.filter.FilterOperator.beat_now.Goals as goal

pub returns : goal.returns
returns c = λ taken sent s. c.beat_now.ensures ∙ filter_beat c.args.self.now taken sent s
