use Rattle.std.proofs.Common.{length}
use Rattle.pipes_minus.specs.Feeds.{Feeds}
use Rattle.pipes_minus.proofs.minus.feed.Given as goal

abbrev pub invariant-loop-next : goal.invariant-loop-next
invariant-loop-next l = Feeds l.initial.line l.line l.initial.waits l.waits l.h

abbrev pub decreases-loop-next : goal.decreases-loop-next
decreases-loop-next l = length l.waits
