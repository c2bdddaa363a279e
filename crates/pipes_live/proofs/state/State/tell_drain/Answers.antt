use Rattle.std.proofs.Common.{refl, sym, subst, OnOk}
use Rattle.pipes_live.specs.declared.state.State.{State}
use Rattle.pipes_live.specs.declared.state.State.TheVariants as state
use Rattle.pipes_written.specs.Made.{drained}
use Rattle.pipes_live.specs.Lives.{beat_in}
use Rattle.pipes_live.specs.Deeds.{TellsIn}
use Rattle.pipes_live.proofs.Outcomes.{on-ok}
use Rattle.pipes_live.proofs.Settling.{tells-alone, tells-moving}
use Rattle.pipes_live.proofs.Staying.{stays-alone, stays-moving}
use Rattle.pipes_live.proofs.state.State.tell_drain.Goals as goal

pub returns-in-Alone-clause-tells : goal.returns-in-Alone-clause-tells
returns-in-Alone-clause-tells c =
    subst (λ (s : State). OnOk c.tell_drain.result
    (TellsIn s (state.Alone c.tell_drain.new.self) (drained c.args.inputs (beat_in s))))
    (sym c.in-Alone.is) (on-ok c.tell_drain.result
    (tells-alone c.in-Alone.standing c.tell_drain.new.self
    (drained c.args.inputs c.in-Alone.standing.output.beat)
    refl) c.tell_drain.ensures.tells)

pub returns-in-Moving-clause-tells : goal.returns-in-Moving-clause-tells
returns-in-Moving-clause-tells c =
    subst (λ (s : State). OnOk c.tell_drain-in-Moving.result
    (TellsIn s (state.Moving c.tell_drain-in-Moving.new.self) (drained c.args.inputs (beat_in s))))
    (sym c.in-Moving.is) (on-ok c.tell_drain-in-Moving.result
    (tells-moving c.in-Moving.moving c.tell_drain-in-Moving.new.self
    (drained c.args.inputs c.in-Moving.moving.output.beat) refl)
    c.tell_drain-in-Moving.ensures.tells)

pub returns-in-Alone-clause-stays : goal.returns-in-Alone-clause-stays
returns-in-Alone-clause-stays c =
    stays-alone c.args.self.now c.in-Alone.standing c.tell_drain.new.self c.in-Alone.is
    c.tell_drain.ensures.count

pub returns-in-Moving-clause-stays : goal.returns-in-Moving-clause-stays
returns-in-Moving-clause-stays c =
    stays-moving c.args.self.now c.in-Moving.moving c.tell_drain-in-Moving.new.self c.in-Moving.is
    c.tell_drain-in-Moving.ensures.count.1
