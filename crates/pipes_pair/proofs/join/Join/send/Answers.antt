use Rattle.std.proofs.Common.{ℕ, refl, subst}
use Rattle.pipes_sweep.specs.Areas.{AreaHolds, until}
use Rattle.pipes_pair.specs.JoinLaw.{join_sends_from}
use Rattle.pipes_pair.proofs.join.Join.send.Goals as goal

pub returns-clause-sends : goal.returns-clause-sends
returns-clause-sends c =
    join_sends_from c.args.self.now _ c.args.known c.least-now.result c.has_ended-ended.result _ _
    refl
    refl refl refl c.purge-left_gone.ensures.columns c.purge-right_gone.ensures.columns
    (λ list h. subst (λ (t : ℕ). AreaHolds c.purge-left_gone.new.self (until t list))
    c.beat_now.ensures (c.purge-left_gone.ensures.purged list h))
    (λ list h. subst (λ (t : ℕ). AreaHolds c.purge-right_gone.new.self (until t list))
    c.beat_now-2.ensures (c.purge-right_gone.ensures.purged list h))
    c.least-now.ensures c.has_ended-ended.ensures c.send_due.ensures.order
    c.in_ok-send_due.ensures.kept c.in_ok-send_due.ensures.sent
