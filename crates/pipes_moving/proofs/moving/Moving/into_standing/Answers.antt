use Rattle.std.proofs.Common.{ap}
use Rattle.pipes_standing.specs.declared.standing.Standing.{Standing}
use Rattle.pipes_moving.proofs.Ending.{calm-after}
use Rattle.pipes_moving.proofs.moving.Moving.into_standing.Goals as goal

pub returns-clause-calm : goal.returns-clause-calm
returns-clause-calm c = λ schemas before after rows base below from entries s passed. (
  s.fresh_got,
  calm-after schemas before after rows base below from entries c.args.self s
      c.requires.settled c.held.ensures.merged
      (c.answers.ensures schemas before below s.old_got s.old)
      (c.keeps_up.ensures.prompt schemas before below s.old_got s.old)
      (c.«answers-2».ensures schemas after from s.fresh_got s.fresh)
      (c.«keeps_up-2».ensures.prompt schemas after from s.fresh_got s.fresh) passed
      c.of_parts.result (ap (λ (x : Standing). x.works) c.of_parts.ensures)
      (ap (λ (x : Standing). x.sent) c.of_parts.ensures)
      (ap (λ (x : Standing). x.output) c.of_parts.ensures),
)
