use Rattle.std.proofs.Common.{rules}
use Rattle.pipes_timeline.proofs.Calling.{from-ok, from-true, from-false, settles_some}
use Rattle.pipes_timeline.proofs.Calling.{settles_none}
use Rattle.pipes_timeline.proofs.table.settle.Goals as goal

pub returns-then-has_answer : goal.returns-then-has_answer
returns-then-has_answer g c =
    from-ok c.reopen.result
    (settles_some (g.R.Rule.rule c.args.rule.now) (g.R.Rule.tells c.args.rule.now) c.args.now
    c.args.key.now c.args.slot.now c.reopen.new.slot c.args.pieces.now c.reopen.new.pieces
    (from-true c.has_answer.result (search rules) c.has_answer.ensures.some)) c.reopen.ensures

pub returns-else-has_answer : goal.returns-else-has_answer
returns-else-has_answer g c =
    settles_none (g.R.Rule.rule c.args.rule.now) (g.R.Rule.tells c.args.rule.now) c.args.now
    c.args.key.now c.args.slot.now c.void.new.slot c.args.pieces.now c.void.new.pieces
    (from-false c.has_answer.result (search rules) c.has_answer.ensures.none) c.void.ensures
