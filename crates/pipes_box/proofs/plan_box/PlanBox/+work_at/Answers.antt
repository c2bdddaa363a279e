use Rattle.std.proofs.Common.{refl}
use Rattle.pipes_box.proofs.WorkedOff.{takes-none, takes-then, through-here, through-lower}
use Rattle.pipes_box.proofs.WorkedOff.{through-done}
use Rattle.pipes_box.proofs.plan_box.PlanBox.+work_at.Goals as goal

pub rounds-init : goal.rounds-init
rounds-init g t c = record {
  sound = c.requires.sound;
  known = c.requires.known;
  works = takes-none c.args.self.now c.args.self.now c.args.out.now.items
      (λ schemas plan given got s. s);
  same = λ j h. refl;
}

pub rounds-preserved : goal.rounds-preserved
rounds-preserved g t c = record {
  sound = c.work_at.ensures.sound;
  known = c.in_ok-fell.ensures.known;
  works = takes-then c.args.self.now c.rounds.self c.work_at.new.self c.args.out.now.items
      c.rounds.out.items c.work_at.new.out.items c.rounds.invariant.works
      c.in_ok-fell.ensures.works;
  same = through-here c.args.self.now c.rounds.self c.work_at.new.self c.args.place
      c.in_ok-fell.fell c.in-None.ensures.goes_on c.in_ok-fell.ensures.falls
      c.rounds.invariant.same;
}

pub rounds-smaller : goal.rounds-smaller
rounds-smaller g t c =
    through-lower c.rounds.self c.work_at.new.self c.args.place c.in_ok-fell.fell
    c.in-None.ensures.goes_on c.in_ok-fell.ensures.falls

pub returns-in-Some-clause-works : goal.returns-in-Some-clause-works
returns-in-Some-clause-works g t c =
    takes-then c.args.self.now c.rounds.self c.work_at.new.self c.args.out.now.items
    c.rounds.out.items c.work_at.new.out.items c.rounds.invariant.works c.in_ok-fell.ensures.works

pub returns-in-Some-clause-falls : goal.returns-in-Some-clause-falls
returns-in-Some-clause-falls g t c =
    through-done c.args.self.now c.rounds.self c.work_at.new.self c.args.place c.in_ok-fell.fell
    c.in-Some.first c.in-Some.ensures.reached c.in_ok-fell.ensures.falls c.rounds.invariant.same

pub returns-in_err-fell-clause-works : goal.returns-in_err-fell-clause-works
returns-in_err-fell-clause-works g t c =
    takes-then c.args.self.now c.rounds.self c.work_at.new.self c.args.out.now.items
    c.rounds.out.items c.work_at.new.out.items c.rounds.invariant.works c.work_at.ensures.works
