use Rattle.std.proofs.Common.{refl}
use Rattle.pipes_coalesce.proofs.Moving.{on-ok}
use Rattle.pipes_coalesce.proofs.Admitting.{admits-old-is, admits-old-other, no-elem}
use Rattle.pipes_coalesce.proofs.merge.Coalesce.admit_old.Goals as goal

pub returns-in-Elem : goal.returns-in-Elem
returns-in-Elem c =
    on-ok c.push.result
    (λ put. admits-old-is c.args.self.now _ c.args.message c.in-Elem.elem c.in-Elem.is refl refl
    refl c.step.ensures.follows put refl refl refl refl)
    c.push.ensures.put

pub returns : goal.returns
returns c =
    admits-old-other c.args.self.now _ c.args.message refl refl refl c.step.ensures.follows refl
    refl refl refl refl
    (no-elem c.args.message c.in_default.not-Elem)
