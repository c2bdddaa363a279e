use Rattle.pipes_group.proofs.Tallies.{tally_has}
use Rattle.pipes_group.proofs.tally.GroupingRuleTally.has_answer.Goals as goal

pub returns-clause-some : goal.returns-clause-some
returns-clause-some c = tally_has c.args.self.now.columns c.args.self.now.aggs c.args.tally.now
