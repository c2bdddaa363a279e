use Rattle.std.proofs.Common.{refl, subst, [], ◌∷◌}
use Rattle.pipes_output.specs.declared.entry.Entry.{Entry}
use Rattle.pipes_replies.specs.Telling.{Refuses}
use Rattle.pipes_live.specs.Deeds.{Tells}
use Rattle.pipes_engine.proofs.Replying.{refuses-in}
use Rattle.pipes_engine.proofs.serving.Serving.refuse.Goals as goal

pub returns-clause-refuses : goal.returns-clause-refuses
returns-clause-refuses c =
    refuses-in c.args.self.now _ c.requires.sound c.keeps_up.ensures c.args.why
    (subst (λ (e : Entry). Refuses c.args.self.now.replies c.refuse-entry.new.self c.args.why e)
    c.refuse-entry.ensures.entry c.refuse-entry.ensures.refuses) c.refuse-entry.ensures.numbers
    refl refl refl
    c.tell.ensures.stays
    (subst (λ (e : Entry). Tells c.args.self.now.live c.tell.new.self (e ∷ []))
    c.refuse-entry.ensures.entry c.in_ok-tell.ensures.tells)
