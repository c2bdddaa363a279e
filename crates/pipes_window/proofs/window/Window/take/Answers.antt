use Rattle.std.proofs.Common.{sym, ◌∙◌}
use Rattle.pipes_window.specs.declared.item.Item.TheVariants as items
use Rattle.pipes_window.proofs.Taking.{takes_inside, on_ok}
use Rattle.pipes_window.proofs.window.Window.take.Goals as goal

pub returns-clause-takes : goal.returns-clause-takes
returns-clause-takes c =
    let w = c.self.inside in
    let sent = sym c.is_err.ensures.value ∙ c.if-is_err.false in
    takes_inside w.kind w.rows.items c.pass.new.rows.items w.last w.ended w.failed c.args.self.now
    (items.Row c.args.stamp c.args.tuple) c.args.out.now.items c.pass.new.out.items
    c.self.view_is c.requires.goes_on c.requires.order c.requires.below
    (on_ok _ c.pass.result sent c.pass.ensures.rows)
    (on_ok _ c.pass.result sent c.pass.ensures.sent)
