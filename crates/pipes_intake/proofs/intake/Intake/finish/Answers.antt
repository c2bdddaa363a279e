use Rattle.pipes_intake.proofs.Turning.{finish-here}
use Rattle.pipes_intake.proofs.intake.Intake.finish.Goals as goal

pub returns : goal.returns
returns c = λ s first left before now taken list stands.
    finish-here s first left before now taken list c.args.self.now
    (record {
      alloc = c.args.self.now.alloc;
      ahead = c.args.self.now.ahead;
      arrivals = c.close.new.arrivals;
      ended = c.args.self.now.ended;
    })
    c.in_ok-step.step stands c.if-self.false c.in_ok-step.ensures.finishes
    c.in_ok-step.ensures.last
