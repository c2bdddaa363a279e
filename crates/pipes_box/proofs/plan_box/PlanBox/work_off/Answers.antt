use Rattle.std.proofs.Common.{◌∙◌, arith}
use Rattle.pipes_box.proofs.WorkedOff.{takes-none, takes-then, none-before}
use Rattle.pipes_box.proofs.plan_box.PlanBox.work_off.Goals as goal

pub returns-clause-works : goal.returns-clause-works
returns-clause-works g c =
    takes-then c.args.self.now c.settle_top.new.self c.work_at.new.self c.args.out.now.items
    c.args.out.now.items c.work_at.new.out.items
    (takes-none c.args.self.now c.settle_top.new.self c.args.out.now.items
    c.settle_top.ensures.stands) c.in_ok-work_at.ensures.works

pub returns-clause-still : goal.returns-clause-still
returns-clause-still g c =
    none-before c.settle_top.new.self c.work_at.new.self c.in_ok-work_at.field-0
    c.in_ok-work_at.ensures.falls

pub returns-in_err-work_at-clause-works : goal.returns-in_err-work_at-clause-works
returns-in_err-work_at-clause-works g c =
    takes-then c.args.self.now c.settle_top.new.self c.work_at.new.self c.args.out.now.items
    c.args.out.now.items c.work_at.new.out.items
    (takes-none c.args.self.now c.settle_top.new.self c.args.out.now.items
    c.settle_top.ensures.stands) c.work_at.ensures.works
