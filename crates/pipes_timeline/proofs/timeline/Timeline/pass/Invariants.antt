use Rattle.std.proofs.Common.{◌≡◌, length}
use Rattle.pipes_timeline.specs.Timelines.{Passes}
use Rattle.pipes_timeline.proofs.timeline.Timeline.pass.Given as goal

abbrev pub invariant-loop-next : goal.invariant-loop-next
invariant-loop-next g l = record {
  passes : Passes (g.R.Rule.rule l.initial.self.rule) (g.R.Rule.tells l.initial.self.rule)
      l.initial.self l.self l.to;
  rule : l.self.rule ≡ l.initial.self.rule;
}

abbrev pub decreases-loop-next : goal.decreases-loop-next
decreases-loop-next g l = length l.self.ends
