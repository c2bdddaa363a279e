use Rattle.std.proofs.Common.{length}
use Rattle.pipes_coalesce.specs.Stands.{Moves}
use Rattle.pipes_coalesce.proofs.merge.Coalesce.advance.Given as goal

abbrev pub invariant-loop-elem : goal.invariant-loop-elem
invariant-loop-elem l =
    Moves l.initial.self l.self l.initial.self.olds l.self.olds l.initial.out.items l.out.items

abbrev pub decreases-loop-elem : goal.decreases-loop-elem
decreases-loop-elem l = length l.self.olds
