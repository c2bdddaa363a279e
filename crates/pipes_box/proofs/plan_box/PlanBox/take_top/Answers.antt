use Rattle.pipes_box.proofs.WorkedOff.{failed-sound, failed-stays, takes-none, takes-then}
use Rattle.pipes_box.proofs.plan_box.PlanBox.take_top.Goals as goal

pub returns-in-Err-clause-sound : goal.returns-in-Err-clause-sound
returns-in-Err-clause-sound c = failed-sound c.take_all.new.self c.take_all.ensures.sound

pub returns-in-Err-clause-took : goal.returns-in-Err-clause-took
returns-in-Err-clause-took c =
    takes-then c.args.self.now c.take_all.new.self _ c.args.out.now.items
    c.take_all.new.out.items c.take_all.new.out.items c.take_all.ensures.took
    (takes-none c.take_all.new.self _ c.take_all.new.out.items (failed-stays c.take_all.new.self))
