use Rattle.std.proofs.Common.{◌<◌, sym, subst, OnOk}
use Rattle.pipes_live.specs.declared.state.State.{State}
use Rattle.pipes_live.specs.declared.state.State.TheVariants as state
use Rattle.pipes_live.specs.Lives.{count_in}
use Rattle.pipes_live.specs.Deeds.{TakesNext}
use Rattle.pipes_live.proofs.Outcomes.{on-ok}
use Rattle.pipes_live.proofs.Staying.{stays-alone, stays-moving}
use Rattle.pipes_live.proofs.Taking.{alone-next}
use Rattle.pipes_live.proofs.state.State.take.Goals as goal

pub returns-in-Alone-clause-takes : goal.returns-in-Alone-clause-takes
returns-in-Alone-clause-takes g c =
    subst (λ (s : State). OnOk c.take.result
    (TakesNext s (state.Alone c.take.new.self) c.args.source c.args.message))
    (sym c.in-Alone.is) (on-ok c.take.result
    (alone-next c.in-Alone.standing c.take.new.self c.args.source c.args.message
    (subst (λ (s : State). c.args.source < count_in s) c.in-Alone.is c.requires.in_range))
    c.take.ensures.takes)

pub returns-in-Alone-clause-stays : goal.returns-in-Alone-clause-stays
returns-in-Alone-clause-stays g c =
    stays-alone c.args.self.now c.in-Alone.standing c.take.new.self c.in-Alone.is
    c.take.ensures.count

pub returns-in-Moving-clause-stays : goal.returns-in-Moving-clause-stays
returns-in-Moving-clause-stays g c =
    stays-moving c.args.self.now c.in-Moving.moving c.take_split.new.moving
    c.in-Moving.is c.take_split.ensures.count
