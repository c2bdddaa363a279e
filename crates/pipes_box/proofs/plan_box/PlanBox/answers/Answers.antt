use Rattle.pipes_box.proofs.BoxLaw.{box-answers}
use Rattle.pipes_box.proofs.Meanings.{follows-plan}
use Rattle.pipes_box.proofs.plan_box.PlanBox.answers.Goals as goal

pub returns-clause-answer : goal.returns-clause-answer
returns-clause-answer c = λ schemas plan given got s.
    box-answers c.args.self.now schemas plan given got c.requires s

pub returns-clause-algebra : goal.returns-clause-algebra
returns-clause-algebra c = λ schemas plan given got s.
    follows-plan schemas plan given got (box-answers c.args.self.now schemas plan given got
    c.requires s)
