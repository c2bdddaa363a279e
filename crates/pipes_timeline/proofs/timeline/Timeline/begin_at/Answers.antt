use Rattle.std.proofs.Common.{sym}
use Rattle.indexmap.specs.IndexMap.{get}
use Rattle.pipes_tuple.specs.Equal.{tuple_eq}
use Rattle.pipes_timeline.proofs.Calling.{from-ok}
use Rattle.pipes_timeline.proofs.Turns.{is-some, enters_found}
use Rattle.pipes_timeline.proofs.timeline.Timeline.begin_at.Goals as goal

pub returns-in-Some-clause-enters : goal.returns-in-Some-clause-enters
returns-in-Some-clause-enters g c =
    from-ok c.begin.result
    (enters_found (g.R.Rule.rule c.args.self.now.rule) (g.R.Rule.tells c.args.self.now.rule)
    c.args.self.now.instant c.args.key (get tuple_eq c.args.self.now.slots)
    (get tuple_eq (c.get_mut.follows.lender c.begin.new.slot)) c.in-Some.slot.now
    c.begin.new.slot c.args.self.now.pieces c.begin.new.pieces (c.args.port, c.args.elem.now)
    (sym c.in-Some.ensures.value)
    ((c.get_mut.follows.holds c.begin.new.slot).3
    (is-some _ c.in-Some.slot.now c.in-Some.ensures.value)).0)
    c.begin.ensures
