use Rattle.std.proofs.Common.{sym, subst}
use Rattle.pipes_live.specs.declared.state.State.{State}
use Rattle.pipes_live.specs.declared.state.State.TheVariants as state
use Rattle.pipes_live.specs.Lives.{IsSettledIn}
use Rattle.pipes_live.specs.Deeds.{EndsIn}
use Rattle.pipes_live.proofs.Closing.{ends-moving, ends-alone}
use Rattle.pipes_live.proofs.state.State.end.Goals as goal

pub returns-in-Alone-clause-ends : goal.returns-in-Alone-clause-ends
returns-in-Alone-clause-ends c =
    subst (λ (s : State). EndsIn s (state.Alone c.in-Alone.standing)) (sym c.in-Alone.is)
    (ends-alone c.in-Alone.standing (subst IsSettledIn c.in-Alone.is c.requires.settled))

pub returns-in-Moving-clause-ends : goal.returns-in-Moving-clause-ends
returns-in-Moving-clause-ends c =
    subst (λ (s : State). EndsIn s (state.Alone c.into_standing.result)) (sym c.in-Moving.is)
    (ends-moving c.in-Moving.moving c.into_standing.result c.into_standing.ensures.entries
    c.into_standing.ensures.beat c.into_standing.ensures.settled c.into_standing.ensures.calm)
