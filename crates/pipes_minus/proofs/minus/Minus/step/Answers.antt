use Rattle.std.proofs.Common.{refl, ◌∙◌}
use Rattle.pipes_minus.proofs.Stepping.{minus_takes}
use Rattle.pipes_minus.proofs.minus.Minus.step.Goals as goal

pub returns-clause-takes : goal.returns-clause-takes
returns-clause-takes c =
    minus_takes c.args.self.now c.watch.new.self c.wait.new.self _ c.args.port c.args.message
    c.least-h.result c.reach-before.result c.reach-reach.result c.both_ended-ended.result
    c.feed.new.line c.args.out.now.items c.send.new.out.items c.append_progress.new.out.items
    c.requires
    c.watch.ensures.sees c.watch.ensures.waits c.watch.ensures.line c.in_ok-wait.ensures.waits
    c.wait.ensures.left c.wait.ensures.right c.wait.ensures.line c.least-h.ensures
    c.in_ok-feed.ensures refl refl c.in_ok-send.ensures.sends c.in_ok-send.ensures.waits
    c.reach-before.ensures c.reach-reach.ensures c.both_ended-ended.ensures
    c.in_ok-append_progress.ensures.appended (c.wait.ensures.schema ∙ c.watch.ensures.schema)
    (c.wait.ensures.failed ∙ c.watch.ensures.failed)
