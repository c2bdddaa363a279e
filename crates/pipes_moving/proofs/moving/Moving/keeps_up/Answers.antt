use Rattle.pipes_moving.proofs.Ending.{output-ends, output-far, output-below}
use Rattle.pipes_moving.proofs.moving.Moving.keeps_up.Goals as goal

pub returns-clause-keeps_none : goal.returns-clause-keeps_none
returns-clause-keeps_none c = λ schemas before after rows base below from entries s ended.
    c.keeps_up.ensures.keeps_none schemas before below s.old_got s.old ended

pub returns-clause-ends : goal.returns-clause-ends
returns-clause-ends c = λ schemas before after rows base below from entries s old_ended
    fresh_ended.
    output-ends schemas before after rows base below from entries c.args.self.now s
    c.requires.settled c.held.ensures.merged
    (c.answers.ensures schemas before below s.old_got s.old)
    (c.keeps_up.ensures.prompt schemas before below s.old_got s.old)
    (c.«answers-2».ensures schemas after from s.fresh_got s.fresh)
    (c.«keeps_up-2».ensures.prompt schemas after from s.fresh_got s.fresh) old_ended fresh_ended

pub returns-clause-far : goal.returns-clause-far
returns-clause-far c = λ schemas before after rows base below from entries s.
    output-far schemas before after rows base below from entries c.args.self.now s
    c.requires.settled c.held.ensures.merged
    (c.answers.ensures schemas before below s.old_got s.old)
    (c.keeps_up.ensures.prompt schemas before below s.old_got s.old)
    (c.«answers-2».ensures schemas after from s.fresh_got s.fresh)
    (c.«keeps_up-2».ensures.prompt schemas after from s.fresh_got s.fresh)

pub returns-clause-no_further : goal.returns-clause-no_further
returns-clause-no_further c = λ schemas before after rows base below from entries s.
    output-below schemas before after rows base below from entries c.args.self.now s
    c.requires.settled c.held.ensures.merged
    (c.answers.ensures schemas before below s.old_got s.old)
    (c.keeps_up.ensures.prompt schemas before below s.old_got s.old)
    (c.«answers-2».ensures schemas after from s.fresh_got s.fresh)
    (c.«keeps_up-2».ensures.prompt schemas after from s.fresh_got s.fresh)
