use Rattle.std.proofs.Common.{[], ◌∷◌, sym, subst, OnOk}
use Rattle.pipes_live.specs.declared.state.State.{State}
use Rattle.pipes_live.specs.declared.state.State.TheVariants as state
use Rattle.pipes_written.specs.Made.{last_entry}
use Rattle.pipes_standing.proofs.Calming.{no-end}
use Rattle.pipes_live.specs.Deeds.{TellsIn}
use Rattle.pipes_live.proofs.Outcomes.{on-ok}
use Rattle.pipes_live.proofs.Settling.{tells-alone, tells-moving}
use Rattle.pipes_live.proofs.Staying.{stays-alone, stays-moving}
use Rattle.pipes_live.proofs.state.State.tell_end.Goals as goal

pub returns-in-Alone-clause-tells : goal.returns-in-Alone-clause-tells
returns-in-Alone-clause-tells c =
    subst (λ (s : State). OnOk c.tell_end.result
    (TellsIn s (state.Alone c.tell_end.new.self) (last_entry c.args.stopped ∷ [])))
    (sym c.in-Alone.is) (on-ok c.tell_end.result
    (tells-alone c.in-Alone.standing c.tell_end.new.self (last_entry c.args.stopped ∷ [])
    (no-end c.args.stopped)) c.tell_end.ensures.tells)

pub returns-in-Moving-clause-tells : goal.returns-in-Moving-clause-tells
returns-in-Moving-clause-tells c =
    subst (λ (s : State). OnOk c.tell_end-in-Moving.result
    (TellsIn s (state.Moving c.tell_end-in-Moving.new.self) (last_entry c.args.stopped ∷ [])))
    (sym c.in-Moving.is) (on-ok c.tell_end-in-Moving.result
    (tells-moving c.in-Moving.moving c.tell_end-in-Moving.new.self
    (last_entry c.args.stopped ∷ []) (no-end c.args.stopped))
    c.tell_end-in-Moving.ensures.tells)

pub returns-in-Alone-clause-stays : goal.returns-in-Alone-clause-stays
returns-in-Alone-clause-stays c =
    stays-alone c.args.self.now c.in-Alone.standing c.tell_end.new.self c.in-Alone.is
    c.tell_end.ensures.count

pub returns-in-Moving-clause-stays : goal.returns-in-Moving-clause-stays
returns-in-Moving-clause-stays c =
    stays-moving c.args.self.now c.in-Moving.moving c.tell_end-in-Moving.new.self c.in-Moving.is
    c.tell_end-in-Moving.ensures.count.1
