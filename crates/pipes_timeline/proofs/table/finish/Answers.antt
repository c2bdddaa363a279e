use Rattle.std.proofs.Common.{refl}
use Rattle.pipes_timeline.proofs.Calling.{from-ok, finishes}
use Rattle.pipes_timeline.proofs.table.finish.Goals as goal

pub returns : goal.returns
returns g c =
    from-ok c.settle.result
    (finishes (g.R.Rule.rule c.args.rule.now) (g.R.Rule.tells c.args.rule.now) c.args.now
    c.args.key.now (g.met.R.Rule.stays c.args.rule.now) c.args.slot.now c.release.new.slot _
    c.settle.new.slot c.args.pieces.now c.release.new.pieces c.settle.new.pieces
    (c.args.port, c.args.elem.now) c.in_ok-release.ensures refl c.in_ok-remove.ensures)
    c.settle.ensures
