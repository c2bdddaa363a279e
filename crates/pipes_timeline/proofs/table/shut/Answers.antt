use Rattle.std.proofs.Common.{rules, refl}
use Rattle.pipes_timeline.proofs.Calling.{frees_late, frees_closed}
use Rattle.pipes_timeline.proofs.table.shut.Goals as goal

pub returns-in_ok-tuple-in-Some : goal.returns-in_ok-tuple-in-Some
returns-in_ok-tuple-in-Some g c =
    frees_closed (g.R.Rule.rule c.args.rule.now) (g.R.Rule.tells c.args.rule.now) c.args.now
    c.args.key.now c.args.slot.now _ c.args.pieces.now c.put.new.self
    (record { tuple = c.in_ok-tuple-in-Some.tuple; span = c.in-Some.span })
    c.in_ok-tuple-in-Some.many c.args.opened.0 c.args.opened.1 c.requires.place c.requires.start
    (search rules) (search rules) (search rules) c.in_ok-tuple-in-Some.ensures refl refl
    c.put.ensures.queue c.put.ensures.base

pub returns-in-None : goal.returns-in-None
returns-in-None g c =
    frees_late (g.R.Rule.rule c.args.rule.now) (g.R.Rule.tells c.args.rule.now) c.args.now
    c.args.key.now c.args.slot.now c.args.pieces.now c.args.opened.0 c.args.opened.1
    c.requires.place
    c.requires.start c.in-None.ensures.exact.1
