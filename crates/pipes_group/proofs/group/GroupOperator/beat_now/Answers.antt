use Rattle.std.proofs.Common.{ℕ, ◌∙◌, sym, ap}
use Rattle.pipes_timeline.specs.Timelines.{reach}
use Rattle.pipes_group.proofs.group.GroupOperator.beat_now.Goals as goal

pub returns : goal.returns
returns c = λ taken sent s.
    c.reach.ensures
    ∙ ap (λ (n : ℕ). reach c.args.self.now.line.pieces.queue.items n) s.line.now
    ∙ sym s.line.sent_beat
