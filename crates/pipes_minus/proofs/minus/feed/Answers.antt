use Rattle.std.proofs.Common.{rules}
use Rattle.pipes_minus.proofs.Taking.{feeds_none, feeds_turn, feeds_all}
use Rattle.pipes_minus.proofs.minus.feed.Goals as goal

pub loop-next-init : goal.loop-next-init
loop-next-init c = feeds_none c.args.line.now c.args.waits.now c.args.h

pub loop-next-preserved : goal.loop-next-preserved
loop-next-preserved c =
    feeds_turn c.args.line.now c.loop-next.line c.take_in.new.line c.args.waits.now
    c.loop-next.waits c.pop.new.self c.args.h c.in-Some.next c.loop-next.invariant
    c.in-Some.ensures.0 c.in-Some.ensures.1 c.in-Some.ensures.2 c.in_ok-take_in.ensures

pub returns : goal.returns
returns c =
    feeds_all c.args.line.now c.loop-next.line c.pass.new.self c.args.waits.now c.loop-next.waits _
    c.args.h c.loop-next.invariant (search rules) (search rules)
    c.in_ok-pass.ensures.passes c.in_ok-pass.ensures.now c.in_ok-pass.ensures.over
