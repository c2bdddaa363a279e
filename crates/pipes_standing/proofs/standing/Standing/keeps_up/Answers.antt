use Rattle.pipes_standing.proofs.Calming.{calm-up_to_date}
use Rattle.pipes_standing.proofs.standing.Standing.keeps_up.Goals as goal

pub returns-clause-up_to_date : goal.returns-clause-up_to_date
returns-clause-up_to_date c = λ schemas plan rows base by_source got entries calm.
    calm-up_to_date schemas plan rows base by_source got entries c.args.self.now
    c.requires.settled.nothing_sent calm
    (c.answers.ensures schemas plan by_source got calm.works)
    (c.keeps_up.ensures.prompt schemas plan by_source got calm.works)
