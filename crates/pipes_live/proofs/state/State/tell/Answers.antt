use Rattle.std.proofs.Common.{[], ◌∷◌, sym, subst, OnOk}
use Rattle.pipes_live.specs.declared.state.State.{State}
use Rattle.pipes_live.specs.declared.state.State.TheVariants as state
use Rattle.pipes_standing.proofs.Calming.{no-result}
use Rattle.pipes_live.specs.Deeds.{TellsIn}
use Rattle.pipes_live.proofs.Outcomes.{on-ok}
use Rattle.pipes_live.proofs.Settling.{tells-alone, tells-moving}
use Rattle.pipes_live.proofs.Staying.{stays-alone, stays-moving}
use Rattle.pipes_live.proofs.state.State.tell.Goals as goal

pub returns-in-Alone-clause-tells : goal.returns-in-Alone-clause-tells
returns-in-Alone-clause-tells c =
    subst (λ (s : State). OnOk c.tell.result
    (TellsIn s (state.Alone c.tell.new.self) (c.args.entry ∷ [])))
    (sym c.in-Alone.is) (on-ok c.tell.result
    (tells-alone c.in-Alone.standing c.tell.new.self (c.args.entry ∷ [])
    (no-result c.args.entry c.requires.of_move)) c.tell.ensures.tells)

pub returns-in-Moving-clause-tells : goal.returns-in-Moving-clause-tells
returns-in-Moving-clause-tells c =
    subst (λ (s : State). OnOk c.tell-in-Moving.result
    (TellsIn s (state.Moving c.tell-in-Moving.new.self) (c.args.entry ∷ [])))
    (sym c.in-Moving.is) (on-ok c.tell-in-Moving.result
    (tells-moving c.in-Moving.moving c.tell-in-Moving.new.self
    (c.args.entry ∷ []) (no-result c.args.entry c.requires.of_move))
    c.tell-in-Moving.ensures.tells)

pub returns-in-Alone-clause-stays : goal.returns-in-Alone-clause-stays
returns-in-Alone-clause-stays c =
    stays-alone c.args.self.now c.in-Alone.standing c.tell.new.self c.in-Alone.is
    c.tell.ensures.count

pub returns-in-Moving-clause-stays : goal.returns-in-Moving-clause-stays
returns-in-Moving-clause-stays c =
    stays-moving c.args.self.now c.in-Moving.moving c.tell-in-Moving.new.self c.in-Moving.is
    c.tell-in-Moving.ensures.count.1
