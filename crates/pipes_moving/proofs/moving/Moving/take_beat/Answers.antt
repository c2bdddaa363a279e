use Rattle.std.proofs.Common.{ℕ, ◌∙◌, ap, subst}
use Rattle.pipes_moving.specs.Steps.{TakesOld, TakesFresh, beat_below, beat_from}
use Rattle.pipes_moving.proofs.moving.Moving.take_beat.Goals as goal

pub returns-clause-takes : goal.returns-clause-takes
returns-clause-takes g c = record {
  between = c.take_old.new.self;
  below = subst (TakesOld c.args.self.now c.take_old.new.self c.args.source)
      (c.beat_below.ensures ∙ ap (λ (t : ℕ). beat_below t c.args.at) c.split-split.ensures)
      c.in_ok-take_old.ensures.takes;
  from = subst (TakesFresh c.take_old.new.self c.take_fresh.new.self c.args.source)
      (c.beat_from.ensures
      ∙ ap (λ (t : ℕ). beat_from t c.args.at c.args.ended) c.split-split.ensures)
      c.in_ok-take_fresh.ensures.takes;
}
