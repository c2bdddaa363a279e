use Rattle.pipes_timeline.proofs.Calling.{frees_none}
use Rattle.pipes_timeline.proofs.table.release.Goals as goal

pub returns-in-None : goal.returns-in-None
returns-in-None g c =
    frees_none (g.R.Rule.rule c.args.rule.now) (g.R.Rule.tells c.args.rule.now) c.args.now
    c.args.key.now c.args.slot.now c.args.pieces.now c.in-None.ensures
