use Rattle.pipes_live.proofs.live.Live.coalesces.Goals as goal

pub returns : goal.returns
returns c = λ moving schemas query plan earlier rows by_source entries s.
    c.coalesces.ensures moving schemas query plan earlier rows c.args.self.now.split by_source
    entries s.at_work
