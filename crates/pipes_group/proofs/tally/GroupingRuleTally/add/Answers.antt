use Rattle.std.proofs.Common.{◌≡◌, ◌+◌, ℕ, List, subst, rules, arith}
use Rattle.pipes_tuple.specs.Columns.{HasColumns}
use Rattle.pipes_timeline.proofs.Calling.{from-ok}
use Rattle.pipes_group.proofs.Tallies.{tally_add}
use Rattle.pipes_group.proofs.tally.GroupingRuleTally.add.Goals as goal

pub returns : goal.returns
returns c =
    let more : c.in_ok-tally.field-0 ≡ c.args.tally.now.count + 1 = search rules in
    from-ok c.gain_all.result (λ gain k bags e t.
    tally_add c.args.self.now.columns c.args.self.now.aggs c.args.tally.now
    c.in_ok-tally.field-0 c.args.port c.args.tuple.now c.as_mut_slice.result.now
    c.gain_all.new.parts (omega arith) c.as_mut_slice.ensures.value
    (subst (λ (columns : List ℕ). HasColumns columns c.args.tuple.now) c.as_slice.ensures.value
    c.if-not-has_columns.ensures) more gain k bags e t)
    c.gain_all.ensures
