use Rattle.pipes_written.proofs.Writes.{written-move}
use Rattle.pipes_written.proofs.output.Output.tell.Goals as goal

pub returns-clause-written : goal.returns-clause-written
returns-clause-written c = λ kinds answer entries w.
    written-move kinds answer c.args.self.now.beat entries c.args.entry c.requires.of_move w
