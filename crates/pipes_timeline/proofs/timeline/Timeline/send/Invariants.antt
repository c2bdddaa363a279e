use Rattle.std.proofs.Common.{◌≡◌, ◌++◌, List, length}
use Rattle.pipes_stream.specs.declared.message.Message.{Message}
use Rattle.pipes_timeline.specs.Timelines.{Sends}
use Rattle.pipes_timeline.proofs.timeline.Timeline.send.Given as goal

abbrev pub invariant-loop-piece : goal.invariant-loop-piece
invariant-loop-piece g l = record {
  sends : Sends (g.R.Rule.rule l.initial.self.rule) (g.R.Rule.tells l.initial.self.rule)
      l.initial.self l.self l.initial.out.items l.out.items;
  rule : l.self.rule ≡ l.initial.self.rule;
  grows : (more : List Message) × (l.out.items ≡ l.initial.out.items ++ more);
}

abbrev pub decreases-loop-piece : goal.decreases-loop-piece
decreases-loop-piece g l = length l.self.pieces.queue.items
