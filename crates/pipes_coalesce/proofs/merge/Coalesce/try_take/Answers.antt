use Rattle.pipes_coalesce.proofs.Settling.{side-over}
use Rattle.pipes_coalesce.proofs.merge.Coalesce.try_take.Goals as goal

pub returns-clause-takes : goal.returns-clause-takes
returns-clause-takes c =
    side-over c.args.side c.args.self.now c.buffer-sent.new.self c.step.new.self
    c.hand_over.new.self c.args.message c.buffer-sent.result.items c.step.new.out.items
    c.args.out.now.items c.hand_over.new.out.items c.buffer-sent.ensures.same.same
    c.buffer-sent.ensures.same.olds c.buffer-sent.ensures.empty c.in_ok-step.ensures.takes
    c.in_ok-hand_over.ensures.same c.in_ok-hand_over.ensures.sent
