use Rattle.std.proofs.Common.{◌≡◌, ◌∙◌, sym}
use Rattle.pipes_sweep.specs.Areas.{until}
use Rattle.pipes_sweep.proofs.Kept.{holds_rest, rest_count}
use Rattle.pipes_sweep.proofs.area.Area.purge.Goals as goal

pub returns-clause-purged : goal.returns-clause-purged
returns-clause-purged c = λ list h.
    holds_rest c.args.self.now c.purge_one.new.self list c.args.t
    (c.purge_one.ensures.columns ∙ c.loop.invariant.columns)
    (sym (c.purge_one.ensures.over c.loop-test.false) ∙ c.purge_one.ensures.purged
    ∙ c.loop.invariant.rest) h

pub returns-clause-count : goal.returns-clause-count
returns-clause-count c = λ list h.
    rest_count c.args.self.now c.purge_one.new.self list c.args.t c.len-before.result c.len.result
    (sym (c.purge_one.ensures.over c.loop-test.false) ∙ c.purge_one.ensures.purged
    ∙ c.loop.invariant.rest) c.len-before.ensures c.len.ensures h
