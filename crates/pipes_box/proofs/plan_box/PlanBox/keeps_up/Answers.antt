use Rattle.pipes_box.proofs.Stillness.{still-prompt, still-holds_none, still-places}
use Rattle.pipes_box.proofs.plan_box.PlanBox.keeps_up.Goals as goal

pub returns-clause-prompt : goal.returns-clause-prompt
returns-clause-prompt c = λ schemas plan given got s.
    still-prompt c.args.self.now schemas plan given got c.requires.sound c.requires.still s

pub returns-clause-keeps_none : goal.returns-clause-keeps_none
returns-clause-keeps_none c = λ schemas plan given got s e.
    still-holds_none c.args.self.now schemas plan given got c.requires.sound c.requires.still s e

pub returns-clause-places : goal.returns-clause-places
returns-clause-places c = λ schemas plan given got s.
    still-places c.args.self.now schemas plan given got c.requires.sound c.requires.still s
