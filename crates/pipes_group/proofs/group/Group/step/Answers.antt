use Rattle.std.proofs.Common.{refl}
use Rattle.pipes_group.proofs.GroupSteps.{group_takes}
use Rattle.pipes_group.proofs.group.Group.step.Goals as goal

pub returns-clause-takes : goal.returns-clause-takes
returns-clause-takes c =
    group_takes c.args.self.now _ c.step.new.self c.pass.new.self c.take_up.new.line
    c.args.message c.beat_now-now.result c.reach-before.result c.reach-reach.result
    c.is_ended-ended.result c.args.out.now.items c.send.new.out.items
    c.append_progress.new.out.items
    c.step.ensures.follows refl c.beat_now-now.ensures c.in_ok-pass.ensures.passes
    c.in_ok-pass.ensures.now c.in_ok-pass.ensures.over c.pass.ensures.rule
    c.in_ok-take_up.ensures.takes_up c.take_up.ensures.rule c.in_ok-send.ensures.sends
    c.in_ok-send.ensures.waits c.send.ensures.rule c.reach-before.ensures c.reach-reach.ensures
    c.is_ended-ended.ensures c.in_ok-append_progress.ensures.appended refl refl
