use Rattle.pipes_coalesce.proofs.Law.{merged}
use Rattle.pipes_coalesce.proofs.merge.Coalesce.held.Goals as goal

pub returns-clause-merged : goal.returns-clause-merged
returns-clause-merged c = merged c.args.self.now
