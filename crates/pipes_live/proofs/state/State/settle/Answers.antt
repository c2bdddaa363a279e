use Rattle.std.proofs.Common.{sym, subst, OnOk}
use Rattle.pipes_live.specs.declared.state.State.{State}
use Rattle.pipes_live.specs.declared.state.State.TheVariants as state
use Rattle.pipes_live.specs.Deeds.{SettlesIn}
use Rattle.pipes_live.proofs.Outcomes.{on-ok}
use Rattle.pipes_live.proofs.Settling.{settles-alone, settles-moving}
use Rattle.pipes_live.proofs.Staying.{stays-alone, stays-moving}
use Rattle.pipes_live.proofs.state.State.settle.Goals as goal

pub returns-in-Alone-clause-settles : goal.returns-in-Alone-clause-settles
returns-in-Alone-clause-settles g c =
    subst (λ (s : State). OnOk c.settle.result (SettlesIn s (state.Alone c.settle.new.self)))
    (sym c.in-Alone.is) (on-ok c.settle.result
    (settles-alone c.in-Alone.standing c.settle.new.self) c.settle.ensures.settles)

pub returns-in-Moving-clause-settles : goal.returns-in-Moving-clause-settles
returns-in-Moving-clause-settles g c =
    subst (λ (s : State). OnOk c.settle-in-Moving.result
    (SettlesIn s (state.Moving c.settle-in-Moving.new.self)))
    (sym c.in-Moving.is) (on-ok c.settle-in-Moving.result
    (settles-moving c.in-Moving.moving c.settle-in-Moving.new.self)
    c.settle-in-Moving.ensures.settles)

pub returns-in-Alone-clause-stays : goal.returns-in-Alone-clause-stays
returns-in-Alone-clause-stays g c =
    stays-alone c.args.self.now c.in-Alone.standing c.settle.new.self c.in-Alone.is
    c.settle.ensures.count

pub returns-in-Moving-clause-stays : goal.returns-in-Moving-clause-stays
returns-in-Moving-clause-stays g c =
    stays-moving c.args.self.now c.in-Moving.moving c.settle-in-Moving.new.self c.in-Moving.is
    c.settle-in-Moving.ensures.count.1
