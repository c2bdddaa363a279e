use Rattle.pipes_group.proofs.Tallies.{tally_idle}
use Rattle.pipes_group.proofs.tally.GroupingRuleTally.is_empty.Goals as goal

pub returns : goal.returns
returns c = tally_idle c.args.self.now.columns c.args.self.now.aggs c.args.tally.now
