use Rattle.std.proofs.Common.{refl}
use Rattle.pipes_timeline.proofs.Turns.{leaves_kept, leaves_removed}
use Rattle.pipes_timeline.proofs.timeline.Timeline.leave.Goals as goal

pub returns-then-idle-clause-leaves : goal.returns-then-idle-clause-leaves
returns-then-idle-clause-leaves g c =
    leaves_removed (g.R.Rule.rule c.args.self.now.rule) (g.R.Rule.tells c.args.self.now.rule)
    c.args.self.now c.finish_at.new.self _ c.in_ok-key.key (c.args.port, c.args.elem.now)
    c.in_ok-idle.idle c.if-idle.true c.in_ok-key.ensures c.in_ok-idle.ensures.leaves
    c.swap_remove.ensures.updates.0 refl c.in_ok-idle.ensures.now c.in_ok-idle.ensures.ends

pub returns-clause-leaves : goal.returns-clause-leaves
returns-clause-leaves g c =
    leaves_kept (g.R.Rule.rule c.args.self.now.rule) (g.R.Rule.tells c.args.self.now.rule)
    c.args.self.now c.finish_at.new.self c.in_ok-key.key (c.args.port, c.args.elem.now)
    c.in_ok-idle.idle c.in_ok-key.ensures c.in_ok-idle.ensures.leaves c.in_ok-idle.ensures.now
    c.in_ok-idle.ensures.ends
