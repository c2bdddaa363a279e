use Rattle.pipes_window.proofs.Taking.{takes_beat}
use Rattle.pipes_window.proofs.window.Window.beat.Goals as goal

pub returns : goal.returns
returns c =
    let w = c.self.inside in
    takes_beat w.kind w.rows.items w.last c.args.stamp w.ended w.failed c.args.self.now
    c.self.view_is c.requires.goes_on c.requires.order c.requires.below c.self.invariant.0
    c.self.invariant.1
