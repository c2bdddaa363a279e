use Rattle.std.proofs.Common.{rules, ◌≡◌}
use Rattle.pipes_minus.proofs.Tallying.{counts_answer}
use Rattle.pipes_minus.proofs.counts.DifferenceRuleCounts.answer.Goals as goal

pub returns : goal.returns
returns c = λ bags t.
    (let is : c.in_ok-tuple.tuple ≡ c.args.key.now = search rules in
    counts_answer c.args.tally.now c.args.key.now c.in_ok-tuple.tuple c.saturating_sub.result
    bags is c.saturating_sub.ensures t)
