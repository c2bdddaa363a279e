use Rattle.pipes_box.proofs.WorkedOff.{takes-none, takes-then, step-made}
use Rattle.pipes_box.proofs.plan_box.PlanBox.work_once.Goals as goal

pub returns-clause-works : goal.returns-clause-works
returns-clause-works g c =
    takes-then c.args.self.now c.take_top.new.self c.advance.new.self c.args.out.now.items
    c.take_top.new.out.items c.take_top.new.out.items c.take_top.ensures.took
    (takes-none c.take_top.new.self c.advance.new.self c.take_top.new.out.items
    c.advance.ensures.stands)

pub returns-clause-falls : goal.returns-clause-falls
returns-clause-falls g c =
    step-made c.args.self.now c.take_top.new.self c.advance.new.self c.in_ok-advance.advance.moved
    c.in_ok-advance.advance.place c.fell.result c.take_top.ensures.nodes
    (c.take_top.ensures.known c.requires.known) c.in_ok-take_top.ensures.none
    c.in_ok-advance.ensures.falls c.in_ok-advance.ensures.idle c.in_ok-advance.ensures.still
    c.fell.ensures.some c.fell.ensures.none

pub returns-in_err-advance-clause-works : goal.returns-in_err-advance-clause-works
returns-in_err-advance-clause-works g c =
    takes-then c.args.self.now c.take_top.new.self c.advance.new.self c.args.out.now.items
    c.take_top.new.out.items c.take_top.new.out.items c.take_top.ensures.took
    (takes-none c.take_top.new.self c.advance.new.self c.take_top.new.out.items
    c.advance.ensures.stands)
