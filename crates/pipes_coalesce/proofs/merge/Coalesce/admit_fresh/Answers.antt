use Rattle.std.proofs.Common.{rules, refl, ◌≡◌, ◌∙◌, sym, subst}
use Rattle.pipes_stream.specs.declared.message.Message.{Message}
use Rattle.pipes_stream.specs.declared.message.Message.TheVariants as message
use Rattle.pipes_coalesce.specs.Stands.{AdmitsFresh}
use Rattle.pipes_coalesce.proofs.Moving.{on-ok}
use Rattle.pipes_coalesce.proofs.Admitting.{admits-elem, admits-other, no-elem}
use Rattle.pipes_coalesce.proofs.merge.Coalesce.admit_fresh.Goals as goal

pub returns-in-Elem : goal.returns-in-Elem
returns-in-Elem c =
    on-ok c.admit_elem.result
    (λ a. subst (λ (m : Message). AdmitsFresh c.args.self.now c.admit_elem.new.self m
    c.args.out.now.items c.admit_elem.new.out.items) (sym c.in-Elem.is)
    (admits-elem c.args.self.now _ c.admit_elem.new.self c.in-Elem.elem c.args.out.now.items
    c.admit_elem.new.out.items refl refl refl
    (λ can. c.step.ensures.follows
    (subst (Rattle.pipes_stream.specs.Lists.CanFollow c.args.self.now.fresh_watch)
    (sym c.in-Elem.is) can)
    ∙ Rattle.std.proofs.Common.ap
    (Rattle.pipes_stream.specs.Lists.after c.args.self.now.fresh_watch) c.in-Elem.is)
    refl refl refl refl refl a))
    c.admit_elem.ensures

pub returns : goal.returns
returns c =
    admits-other c.args.self.now _ c.args.message c.args.out.now.items refl refl refl
    c.step.ensures.follows refl refl refl refl refl
    (no-elem c.args.message c.in_default.not-Elem)
