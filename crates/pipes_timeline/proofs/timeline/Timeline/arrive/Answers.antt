use Rattle.std.proofs.Common.{refl}
use Rattle.pipes_timeline.proofs.Turns.{arrives}
use Rattle.pipes_timeline.proofs.timeline.Timeline.arrive.Goals as goal

pub returns-clause-arrives : goal.returns-clause-arrives
returns-clause-arrives g c =
    arrives (g.R.Rule.rule c.args.self.now.rule) (g.R.Rule.tells c.args.self.now.rule)
    c.args.self.now c.begin_at.new.self _ c.in_ok-key.key (c.args.port, c.args.elem)
    c.in_ok-key.ensures c.in_ok-begin_at.ensures.enters c.in_ok-begin_at.ensures.ends
    c.in_ok-put.ensures refl refl c.in_ok-begin_at.ensures.now
