use Rattle.std.proofs.Common.{ℕ, refl, subst, rules}
use Rattle.pipes_replies.specs.Telling.{Paces, told_in}
use Rattle.pipes_engine.proofs.Timing.{paces-in, paces-not, order-after}
use Rattle.pipes_engine.proofs.serving.Serving.pace.Goals as goal

pub returns-then-not-may_pace-clause-paces : goal.returns-then-not-may_pace-clause-paces
returns-then-not-may_pace-clause-paces c =
    paces-not c.args.self.now c.requires.sound c.inputs_beat-inputs.result c.keeps_up.ensures
    c.inputs_beat-inputs.ensures (search rules)

pub returns-clause-order : goal.returns-clause-order
returns-clause-order c =
    order-after c.args.self.now _ c.requires.sound c.requires.order c.inputs_beat-inputs.result
    c.keeps_up.ensures c.inputs_beat-inputs.ensures c.pace-paced.result
    (subst (λ (n : ℕ). Paces c.args.self.now.replies c.pace-paced.new.self
    c.inputs_beat-inputs.result n (told_in c.pace-paced.result)) c.beat_now-output.ensures
    c.pace-paced.ensures.paces) c.pace-paced.ensures.told
    c.pace-paced.ensures.numbers c.tell_paced.new.live c.tell_paced.ensures.stays
    c.in_ok-tell_paced.ensures.tells c.is_calm-over.result c.is_calm-over.ensures
    c.drop_old.ensures.drops refl refl refl

pub returns-clause-paces : goal.returns-clause-paces
returns-clause-paces c =
    paces-in c.args.self.now _ c.requires.sound c.requires.order c.inputs_beat-inputs.result
    c.keeps_up.ensures c.inputs_beat-inputs.ensures c.pace-paced.result
    (subst (λ (n : ℕ). Paces c.args.self.now.replies c.pace-paced.new.self
    c.inputs_beat-inputs.result n (told_in c.pace-paced.result)) c.beat_now-output.ensures
    c.pace-paced.ensures.paces) c.pace-paced.ensures.told
    c.pace-paced.ensures.numbers c.tell_paced.new.live c.tell_paced.ensures.stays
    c.in_ok-tell_paced.ensures.tells c.is_calm-over.result c.is_calm-over.ensures
    c.drop_old.ensures.drops refl refl refl
