use Rattle.pipes_output.proofs.Injective.{text-injective}
use Rattle.pipes_output.proofs.entry.Entry.print.Goals as goal

pub returns-clause-only : goal.returns-clause-only
returns-clause-only c = text-injective
