use Rattle.std.proofs.Common.{◌≤◌, length}
use Rattle.pipes_answer.specs.Gathering.{ReleasesRows}
use Rattle.pipes_answer.proofs.source.release_due.Given as goal

abbrev pub invariant-due : goal.invariant-due
invariant-due l = ReleasesRows (λ stamp. stamp ≤ l.floor) l.initial.waiting l.waiting l.initial.rows
    l.rows

abbrev pub decreases-due : goal.decreases-due
decreases-due l = length l.waiting
