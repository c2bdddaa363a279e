use Rattle.pipes_written.proofs.Writes.{written-none}
use Rattle.pipes_written.proofs.output.Output.new.Goals as goal

pub returns-clause-written : goal.returns-clause-written
returns-clause-written c = λ kinds answer. written-none kinds answer
