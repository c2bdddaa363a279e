use Rattle.pipes_live.proofs.Staying.{at-written}
use Rattle.pipes_live.proofs.live.Live.tells.Goals as goal

pub returns-clause-written : goal.returns-clause-written
returns-clause-written c = λ schemas query plan earlier rows by_source entries s.
    at-written schemas query plan earlier rows c.args.self.now.split by_source entries
    c.args.self.now.state s.at_work

pub returns-clause-order : goal.returns-clause-order
returns-clause-order c = λ query items plan earlier by_source entries s.
    c.tells.ensures.order query items plan earlier c.args.self.now.split by_source entries
    s.at_work

pub returns-clause-whole : goal.returns-clause-whole
returns-clause-whole c = λ query items plan earlier by_source entries s ended.
    c.tells.ensures.whole query items plan earlier c.args.self.now.split by_source entries
    s.at_work ended
