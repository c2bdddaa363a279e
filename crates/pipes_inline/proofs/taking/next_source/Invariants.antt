use Rattle.std.proofs.Common.{◌≡◌, ◌≤◌, ◌<◌}
use Rattle.pipes_intake.specs.declared.intake.Intake.{Intake}
use Rattle.pipes_intake.specs.Giving.{next_turn_of}
use Rattle.pipes_inline.specs.Standing.{IsFirst}
use Rattle.pipes_inline.proofs.taking.next_source.Given as goal

abbrev pub invariant-intakes : goal.invariant-intakes
invariant-intakes l = IsFirst l.intakes l.i l.first l.least
