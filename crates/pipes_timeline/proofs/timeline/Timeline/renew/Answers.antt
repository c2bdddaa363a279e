use Rattle.std.proofs.Common.{refl, sym}
use Rattle.pipes_timeline.proofs.Calling.{from-ok}
use Rattle.pipes_timeline.proofs.Turns.{is-some, trims_found}
use Rattle.pipes_timeline.proofs.timeline.Timeline.renew.Goals as goal

pub returns-in-Some-clause-trims : goal.returns-in-Some-clause-trims
returns-in-Some-clause-trims g c =
    from-ok c.cut.result
    (λ cuts. trims_found (g.R.Rule.rule c.args.self.now.rule) (g.R.Rule.tells c.args.self.now.rule)
    c.args.self.now _ c.args.key.now c.in-Some.slot.now c.cut.new.slot
    (sym c.in-Some.ensures.value)
    ((c.get_mut.follows.holds c.cut.new.slot).3
    (is-some _ c.in-Some.slot.now c.in-Some.ensures.value)).0 cuts refl refl)
    c.cut.ensures
