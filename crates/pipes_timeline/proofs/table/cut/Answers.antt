use Rattle.pipes_timeline.proofs.Calling.{from-ok}
use Rattle.pipes_timeline.proofs.Turns.{cuts}
use Rattle.pipes_timeline.proofs.table.cut.Goals as goal

pub returns : goal.returns
returns g c =
    from-ok c.settle.result
    (cuts (g.R.Rule.rule c.args.rule.now) (g.R.Rule.tells c.args.rule.now) c.args.now
    c.args.key.now c.args.slot.now c.release.new.slot c.settle.new.slot c.args.pieces.now
    c.release.new.pieces c.settle.new.pieces c.in_ok-release.ensures) c.settle.ensures
