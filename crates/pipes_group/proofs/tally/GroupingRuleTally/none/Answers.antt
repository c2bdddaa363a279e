use Rattle.std.proofs.Common.{refl}
use Rattle.pipes_group.proofs.Tallies.{tally_none}
use Rattle.pipes_group.proofs.tally.GroupingRuleTally.none.Goals as goal

pub returns : goal.returns
returns c = λ k bags none.
    tally_none c.args.self.now.columns c.args.self.now.aggs k _ bags refl
    c.in_ok-parts.ensures.aggs c.in_ok-parts.ensures.none none
