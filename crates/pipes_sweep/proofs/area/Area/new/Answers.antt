use Rattle.pipes_sweep.proofs.Kept.{holds_nothing}
use Rattle.pipes_sweep.proofs.area.Area.new.Goals as goal

pub returns-clause-nothing : goal.returns-clause-nothing
returns-clause-nothing c = holds_nothing c.args.cols _ c.new.ensures
