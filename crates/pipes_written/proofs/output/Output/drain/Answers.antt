use Rattle.pipes_written.proofs.Writes.{written-drained}
use Rattle.pipes_written.proofs.output.Output.drain.Goals as goal

pub returns-clause-written : goal.returns-clause-written
returns-clause-written c = λ kinds answer entries w.
    written-drained kinds answer c.args.self.now.beat c.args.inputs entries w
