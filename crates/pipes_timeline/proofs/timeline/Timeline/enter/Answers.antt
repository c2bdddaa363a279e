use Rattle.std.proofs.Common.{refl}
use Rattle.indexmap.specs.IndexMap.{get}
use Rattle.pipes_tuple.specs.Equal.{tuple_eq}
use Rattle.pipes_timeline.proofs.Turns.{enters_absent}
use Rattle.pipes_timeline.proofs.timeline.Timeline.enter.Goals as goal

pub returns-clause-enters : goal.returns-clause-enters
returns-clause-enters g c =
    enters_absent (g.R.Rule.rule c.args.self.now.rule) (g.R.Rule.tells c.args.self.now.rule)
    c.args.self.now.instant c.args.key (get tuple_eq c.args.self.now.slots)
    (get tuple_eq c.insert.new.self) _ c.begin.new.slot c.args.self.now.pieces c.begin.new.pieces
    (c.args.port, c.args.elem.now) c.requires refl c.in_ok-tally.ensures
    c.in_ok-insert.ensures.updates.0 c.in_ok-begin.ensures
