use Rattle.pipes_halves.proofs.Laws.{split-laws}
use Rattle.pipes_halves.proofs.halves.splits_up.Goals as goal

pub returns : goal.returns
returns c = split-laws
