use Rattle.std.proofs.Common.{length}
use Rattle.std.specs.Prelude.{⊤}
use Rattle.pipes_answer.specs.Gathering.{ReleasesRows}
use Rattle.pipes_answer.proofs.source.release_rest.Given as goal

abbrev pub invariant-rest : goal.invariant-rest
invariant-rest l = ReleasesRows (λ stamp. ⊤) l.initial.waiting l.waiting l.initial.rows l.rows

abbrev pub decreases-rest : goal.decreases-rest
decreases-rest l = length l.waiting
