use Rattle.pipes_sweep.proofs.Indices.{later_from_first}
use Rattle.pipes_sweep.proofs.end_index.EndIndex.has_ended.Goals as goal

pub returns-in-Some-clause-later : goal.returns-in-Some-clause-later
returns-in-Some-clause-later c = λ late.
    later_from_first c.args.t c.in-Some.first.now c.args.self.now.ends c.in-Some.ensures.least late
