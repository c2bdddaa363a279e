use Rattle.std.proofs.Common.{sym, subst, OnOk}
use Rattle.pipes_live.specs.declared.state.State.{State}
use Rattle.pipes_live.specs.declared.state.State.TheVariants as state
use Rattle.pipes_live.specs.Deeds.{OpensIn}
use Rattle.pipes_live.proofs.Staying.{stays-moving}
use Rattle.pipes_live.proofs.state.State.open.Goals as goal

pub returns-clause-opens : goal.returns-clause-opens
returns-clause-opens g c =
    subst (λ (s : State). OnOk c.open_each.result
    (OpensIn s (state.Moving c.open_each.new.moving) c.args.sources.now c.args.split))
    (sym c.in-Moving.is) c.open_each.ensures.opens

pub returns-clause-stays : goal.returns-clause-stays
returns-clause-stays g c =
    stays-moving c.args.self.now c.in-Moving.moving c.open_each.new.moving c.in-Moving.is
    c.open_each.ensures.count.1
