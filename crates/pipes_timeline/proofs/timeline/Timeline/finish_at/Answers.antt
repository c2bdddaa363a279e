use Rattle.std.proofs.Common.{sym}
use Rattle.indexmap.specs.IndexMap.{get}
use Rattle.pipes_tuple.specs.Equal.{tuple_eq}
use Rattle.pipes_timeline.proofs.Turns.{is-some, leaves_found, leaves_absent}
use Rattle.pipes_timeline.proofs.timeline.Timeline.finish_at.Goals as goal

pub returns-in_ok-finish-in-Some-clause-leaves : goal.returns-in_ok-finish-in-Some-clause-leaves
returns-in_ok-finish-in-Some-clause-leaves g c =
    leaves_found (g.R.Rule.rule c.args.self.now.rule) (g.R.Rule.tells c.args.self.now.rule)
    c.args.self.now.instant c.args.key.now (get tuple_eq c.args.self.now.slots)
    (get tuple_eq (c.get_mut.follows.lender c.finish.new.slot)) c.in-Some.slot.now
    c.finish.new.slot c.args.self.now.pieces c.finish.new.pieces (c.args.port, c.args.elem.now)
    c.is_idle.result (sym c.in-Some.ensures.value)
    ((c.get_mut.follows.holds c.finish.new.slot).3
    (is-some _ c.in-Some.slot.now c.in-Some.ensures.value)).0
    c.in_ok-finish-in-Some.ensures c.is_idle.ensures

pub returns-in-None-clause-leaves : goal.returns-in-None-clause-leaves
returns-in-None-clause-leaves g c =
    rw c.get_mut.follows.holds-at-none
    (leaves_absent (g.R.Rule.rule c.args.self.now.rule) (g.R.Rule.tells c.args.self.now.rule)
    c.args.self.now.instant c.args.key.now (get tuple_eq c.args.self.now.slots)
    c.args.self.now.pieces (c.args.port, c.args.elem.now) (sym c.in-None.ensures.value))
