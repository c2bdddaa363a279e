use Rattle.pipes_live.proofs.Reaching.{reaches-live}
use Rattle.pipes_live.proofs.Staying.{at-closes}
use Rattle.pipes_live.proofs.live.Live.keeps_up.Goals as goal

pub returns : goal.returns
returns c = λ schemas query plan earlier rows by_source entries s.
    let l = c.args.self.now in
    reaches-live l schemas plan earlier by_source c.requires.whole.1
    (at-closes schemas query plan earlier rows l.split by_source entries l.state s.at_work)
    (c.keeps_up.ensures schemas query plan earlier rows l.split by_source entries s.at_work
    s.sources.valid)
