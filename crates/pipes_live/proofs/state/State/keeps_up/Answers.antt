use Rattle.std.proofs.Common.{sym, subst}
use Rattle.pipes_live.specs.declared.state.State.{State}
use Rattle.pipes_live.specs.Deeds.{ReachesIn}
use Rattle.pipes_live.proofs.Reaching.{reaches-alone, reaches-moving}
use Rattle.pipes_live.proofs.state.State.keeps_up.Goals as goal

pub returns-in-Alone : goal.returns-in-Alone
returns-in-Alone c = λ schemas query plan earlier rows split by_source entries at valid.
    let a = rw c.in-Alone.is at at in
    subst (λ (x : State). ReachesIn x schemas plan earlier split by_source) (sym c.in-Alone.is)
    (reaches-alone c.in-Alone.standing schemas query plan earlier rows split by_source entries a
    (c.keeps_up.ensures.up_to_date schemas plan rows a.base a.given a.got entries a.calm))

pub returns-in-Moving : goal.returns-in-Moving
returns-in-Moving c = λ schemas query plan earlier rows split by_source entries at valid.
    let a = rw c.in-Moving.is at at in
    let e = c.keeps_up-in-Moving.ensures in
    subst (λ (x : State). ReachesIn x schemas plan earlier split by_source) (sym c.in-Moving.is)
    (reaches-moving c.in-Moving.moving schemas query plan earlier rows split by_source entries a
    valid (e.no_further schemas a.before plan rows a.base a.below a.from entries a.moving)
    (e.far schemas a.before plan rows a.base a.below a.from entries a.moving)
    (e.ends schemas a.before plan rows a.base a.below a.from entries a.moving)
    (e.keeps_none schemas a.before plan rows a.base a.below a.from entries a.moving))
