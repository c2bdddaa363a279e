use Rattle.std.proofs.Common.{sym, ◌∙◌}
use Rattle.pipes_window.proofs.Gathering.{gathers_inside, gathers_none}
use Rattle.pipes_window.proofs.rows_at.RowsAt.take.Goals as goal

pub returns-in_ok-keep-clause-takes : goal.returns-in_ok-keep-clause-takes
returns-in_ok-keep-clause-takes c =
    let g = c.self.inside in
    gathers_inside g.kind g.time c.args.stamp c.args.tuple g.rows.items c.keep.new.rows.items
    c.args.self.now c.self.view_is
    (sym c.reaches.ensures ∙ c.if-reaches.true) c.in_ok-keep.ensures.rows

pub returns-else-reaches-clause-takes : goal.returns-else-reaches-clause-takes
returns-else-reaches-clause-takes c =
    let g = c.self.inside in
    gathers_none g.kind g.time c.args.stamp c.args.tuple g.rows.items c.args.self.now c.self.view_is
    (sym c.reaches.ensures ∙ c.if-reaches.false)
