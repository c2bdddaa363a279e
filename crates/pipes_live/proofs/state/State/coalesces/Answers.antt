use Rattle.std.proofs.Common.{ℕ, subst}
use Rattle.pipes_semantics.specs.Written.{results}
use Rattle.pipes_told.specs.Coalesced.{CoalescedAt}
use Rattle.pipes_live.proofs.state.State.coalesces.Goals as goal

pub returns-in-Moving : goal.returns-in-Moving
returns-in-Moving c = λ moving schemas query plan earlier rows split by_source entries at.
    let a = rw c.in-Moving.is at at in
    subst (λ (n : ℕ). CoalescedAt (results entries) n) a.split_is
    (c.coalesces.ensures schemas a.before plan rows a.base a.below a.from entries a.moving)
