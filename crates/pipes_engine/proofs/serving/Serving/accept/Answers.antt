use Rattle.std.proofs.Common.{refl, ap, sym, subst, ◌∙◌, arith, [], ◌∷◌, length, Vec}
use Rattle.pipes_plan.specs.declared.plan.Plan.{Plan}
use Rattle.pipes_plan.specs.PlanKinds.{IsTyped}
use Rattle.pipes_plan.specs.Refusals.{Checks}
use Rattle.pipes_output.specs.declared.entry.Entry.{Entry}
use Rattle.pipes_replies.specs.Telling.{Accepts}
use Rattle.pipes_live.specs.declared.source.Source.{Source}
use Rattle.pipes_live.specs.Deeds.{Tells}
use Rattle.pipes_engine.proofs.Replacing.{accepts-in, derived-checks, means-typed, sound-after}
use Rattle.pipes_engine.proofs.serving.Serving.accept.Goals as goal

pub new-requires-clause-checks : goal.new-requires-clause-checks
new-requires-clause-checks g c =
    derived-checks c.args.self.now.schemas c.args.self.now.plan c.args.derivation.now.plan
    c.args.derivation.now.steps c.requires.sound.checks c.requires.derives

pub returns-clause-sound : goal.returns-clause-sound
returns-clause-sound g c =
    let low = c.requires.sound.end in let was = c.requires.sound.last in
    let same = c.requires.order.split_is in let split = c.next_split-split.ensures in
    let last = c.accept-entry.ensures.last in
    sound-after c.args.self.now _ c.requires.sound c.begin.ensures.whole
    (ap (λ (v : Vec Source _). length v.items) (c.begin.ensures.sources ∙ c.tell.ensures.sources))
    refl
    (subst (λ (p : Plan). IsTyped p c.args.self.now.schemas) (sym c.in_ok-plan.ensures)
    (means-typed c.args.self.now.schemas c.args.self.now.plan c.args.derivation.now.plan
    c.requires.means c.requires.sound.typed))
    (subst (λ (p : Plan). Checks c.args.self.now.schemas p) (sym c.in_ok-plan.ensures)
    (derived-checks c.args.self.now.schemas c.args.self.now.plan c.args.derivation.now.plan
    c.args.derivation.now.steps c.requires.sound.checks c.requires.derives))
    refl refl (omega (arith, low, was, same, split, last))

pub returns-clause-replies : goal.returns-clause-replies
returns-clause-replies g c =
    accepts-in c.args.self.now _ c.args.derivation.now c.requires.sound c.requires.order
    c.keeps_up.ensures c.derivation_keeps_leaves.ensures.derivation c.requires.derives
    c.requires.means c.next_split-split.result c.next_split-split.ensures
    (subst (λ (e : Entry). Accepts c.args.self.now.replies c.accept-entry.new.self
    c.next_split-split.result e) c.accept-entry.ensures.entry c.accept-entry.ensures.accepts)
    c.tell.new.self c.tell.ensures.stays
    (subst (λ (e : Entry). Tells c.args.self.now.live c.tell.new.self (e ∷ []))
    c.accept-entry.ensures.entry c.in_ok-tell.ensures.tells) c.in_ok-next.next
    c.in_ok-next.ensures.stands c.in_ok-begin.ensures.begins c.coalesces.ensures refl
    c.in_ok-plan.ensures refl
