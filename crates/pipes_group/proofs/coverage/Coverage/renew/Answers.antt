use Rattle.std.proofs.Common.{ℕ, refl, subst}
use Rattle.pipes_group.specs.Covers.{Renews}
use Rattle.pipes_timeline.proofs.Calling.{from-ok}
use Rattle.pipes_group.proofs.Moving.{renews-stale}
use Rattle.pipes_group.proofs.coverage.Coverage.renew.Goals as goal

pub returns-in-None-clause-renews : goal.returns-in-None-clause-renews
returns-in-None-clause-renews c =
    renews-stale c.args.self.now c.args.self.now c.args.due.0 c.args.due.1 c.args.out.now.items refl
    c.in-None.ensures

pub returns-in-Some-clause-renews : goal.returns-in-Some-clause-renews
returns-in-Some-clause-renews c =
    from-ok c.go_on.result
    (λ renews. subst
    (λ (at : ℕ). Renews c.args.self.now c.go_on.new.self (at, c.args.due.1) c.args.out.now.items
    c.go_on.new.out.items) c.in-Some.ensures.1 renews) c.go_on.ensures.renews
