use Rattle.std.proofs.Common.{arith}
use Rattle.pipes_timeline.proofs.Calling.{from-ok}
use Rattle.pipes_group.proofs.Tallies.{tally_remove}
use Rattle.pipes_group.proofs.tally.GroupingRuleTally.remove.Goals as goal

pub returns : goal.returns
returns c =
    from-ok c.lose_all.result (λ lose k bags e t.
    tally_remove c.args.self.now.columns c.args.self.now.aggs c.args.tally.now
    c.saturating_sub-tally.result c.args.port c.args.tuple.now c.as_mut_slice.result.now
    c.lose_all.new.parts (omega arith) c.as_mut_slice.ensures.value
    c.saturating_sub-tally.ensures lose k bags e t)
    c.lose_all.ensures
