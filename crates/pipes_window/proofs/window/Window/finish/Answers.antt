use Rattle.std.proofs.Common.{sym, ◌∙◌}
use Rattle.pipes_window.proofs.Taking.{taken_spans, finishes_inside, on_ok}
use Rattle.pipes_window.proofs.window.Window.finish.Goals as goal

pub returns-then-is_err-clause-rows : goal.returns-then-is_err-clause-rows
returns-then-is_err-clause-rows c = taken_spans c.args.self.now

pub returns-clause-rows : goal.returns-clause-rows
returns-clause-rows c = taken_spans c.args.self.now

pub returns-clause-finishes : goal.returns-clause-finishes
returns-clause-finishes c =
    let w = c.self.inside in
    let sent = sym c.is_err.ensures.value ∙ c.if-is_err.false in
    finishes_inside w.kind w.rows.items c.flush.new.rows.items w.last w.ended w.failed
    c.args.self.now c.args.out.now.items c.flush.new.out.items c.self.view_is c.requires
    c.self.invariant.1
    (on_ok _ c.flush.result sent c.flush.ensures.rows)
    (on_ok _ c.flush.result sent c.flush.ensures.sent)
