use Rattle.std.proofs.Common.{rules}
use Rattle.pipes_coalesce.proofs.Settling.{takes-side}
use Rattle.pipes_coalesce.proofs.merge.Coalesce.step.Goals as goal

pub returns-clause-takes : goal.returns-clause-takes
returns-clause-takes c =
    takes-side c.args.side c.args.self.now c.admit.new.self c.settle.new.self c.args.message
    c.beat_now-beat_sent.result c.args.out.now.items c.admit.new.out.items
    c.settle.new.out.items c.beat_now-beat_sent.ensures.value c.in_ok-admit.ensures
    c.in_ok-settle.ensures
