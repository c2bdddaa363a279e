use Rattle.std.proofs.Common.{rules, refl}
use Rattle.pipes_timeline.proofs.Calling.{from-ok}
use Rattle.pipes_group.proofs.Moving.{not-interval, renews-extended, renews-dropped}
use Rattle.pipes_group.proofs.coverage.Coverage.go_on.Goals as goal

pub returns-in-Some-clause-renews : goal.returns-in-Some-clause-renews
returns-in-Some-clause-renews c =
    from-ok c.extend.result
    (λ extends. renews-extended c.args.self.now c.extend.new.self c.args.tuple c.args.slot
    c.in-Some.span c.args.out.now.items c.extend.new.out.items c.requires
    c.in-Some.ensures.value (search rules) extends)
    c.extend.ensures.extends

pub returns-in-None-clause-renews : goal.returns-in-None-clause-renews
returns-in-None-clause-renews c =
    renews-dropped c.args.self.now _ c.args.tuple c.args.slot c.args.out.now.items c.requires
    (not-interval c.args.slot.cover c.args.slot.until c.in-None.ensures.exact.1)
    (search rules) refl c.swap_remove.ensures.unique
