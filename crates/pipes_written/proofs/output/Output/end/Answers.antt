use Rattle.pipes_written.proofs.Writes.{written-last}
use Rattle.pipes_written.proofs.output.Output.end.Goals as goal

pub returns-clause-written : goal.returns-clause-written
returns-clause-written c = λ kinds answer entries w.
    written-last kinds answer c.args.self.now.beat entries c.args.stopped w
