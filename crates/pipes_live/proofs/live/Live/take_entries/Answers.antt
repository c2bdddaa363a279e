use Rattle.std.proofs.Common.{refl}
use Rattle.pipes_live.proofs.Settling.{empties-live}
use Rattle.pipes_live.proofs.Staying.{stays-live}
use Rattle.pipes_live.proofs.live.Live.take_entries.Goals as goal

pub returns-clause-empties : goal.returns-clause-empties
returns-clause-empties c =
    empties-live c.args.self.now _ c.take_entries.ensures.empties refl refl

pub returns-clause-stays : goal.returns-clause-stays
returns-clause-stays c = stays-live c.args.self.now _ c.take_entries.ensures.stays refl refl
