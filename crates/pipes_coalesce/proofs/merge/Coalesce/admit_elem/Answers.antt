use Rattle.std.proofs.Common.{rules, refl, ◌∙◌, sym}
use Rattle.pipes_coalesce.proofs.Moving.{on-ok}
use Rattle.pipes_coalesce.proofs.Admitting.{admits-later, admits-partner, admits-both}
use Rattle.pipes_coalesce.proofs.merge.Coalesce.admit_elem.Goals as goal

pub returns-then-start-self : goal.returns-then-start-self
returns-then-start-self c =
    on-ok c.push.result
    (λ put. admits-later c.args.self.now _ c.args.elem c.args.out.now.items c.args.out.now.items
    (search rules) refl refl refl refl put refl (search rules))
    c.push.ensures.put

pub returns-in-Some : goal.returns-in-Some
returns-in-Some c =
    on-ok c.append.result
    (λ is. admits-both c.args.self.now _ c.args.elem c.args.out.now.items c.append.new.out.items
    (search rules) refl refl refl refl c.in-Some.first c.joined.result
    c.in-Some.ensures.1 c.in-Some.ensures.0 c.joined.ensures is (search rules))
    c.append.ensures

pub returns-in-None : goal.returns-in-None
returns-in-None c =
    on-ok c.put.result
    (λ put. admits-partner c.args.self.now _ c.args.elem c.args.out.now.items c.args.out.now.items
    (search rules) refl refl c.in-None.ensures.0 refl put refl
    (search rules) c.in-None.ensures.1)
    c.put.ensures
