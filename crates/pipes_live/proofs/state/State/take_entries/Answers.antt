use Rattle.std.proofs.Common.{ap, sym, subst}
use Rattle.pipes_works.specs.declared.works.Works.{Works}
use Rattle.pipes_works.specs.Standing.{source_count}
use Rattle.pipes_live.specs.declared.state.State.{State}
use Rattle.pipes_live.specs.declared.state.State.TheVariants as state
use Rattle.pipes_live.specs.Deeds.{EmptiesIn}
use Rattle.pipes_live.proofs.Settling.{empties-alone, empties-moving}
use Rattle.pipes_live.proofs.Staying.{stays-alone, stays-moving}
use Rattle.pipes_live.proofs.state.State.take_entries.Goals as goal

pub returns-in-Alone-clause-empties : goal.returns-in-Alone-clause-empties
returns-in-Alone-clause-empties c =
    let e = c.take_entries.ensures in
    subst (λ (s : State). EmptiesIn s (state.Alone c.take_entries.new.self)) (sym c.in-Alone.is)
    (empties-alone c.in-Alone.standing c.take_entries.new.self e.none e.beat e.settled e.calm)

pub returns-in-Moving-clause-empties : goal.returns-in-Moving-clause-empties
returns-in-Moving-clause-empties c =
    let e = c.take_entries-in-Moving.ensures in
    subst (λ (s : State). EmptiesIn s (state.Moving c.take_entries-in-Moving.new.self))
    (sym c.in-Moving.is)
    (empties-moving c.in-Moving.moving c.take_entries-in-Moving.new.self e.none e.beat e.seam
    e.settled e.moves)

pub returns-in-Alone-clause-stays : goal.returns-in-Alone-clause-stays
returns-in-Alone-clause-stays c =
    stays-alone c.args.self.now c.in-Alone.standing c.take_entries.new.self c.in-Alone.is
    (ap (λ (w : Works). source_count w) c.take_entries.ensures.works)

pub returns-in-Moving-clause-stays : goal.returns-in-Moving-clause-stays
returns-in-Moving-clause-stays c =
    stays-moving c.args.self.now c.in-Moving.moving c.take_entries-in-Moving.new.self c.in-Moving.is
    c.take_entries-in-Moving.ensures.count.1
