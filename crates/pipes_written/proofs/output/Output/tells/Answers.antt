use Rattle.std.proofs.Common.{arith}
use Rattle.pipes_written.proofs.output.Output.tells.Goals as goal

pub returns-clause-order : goal.returns-clause-order
returns-clause-order c = λ query items entries w. record {
  ordered = record { rising = w.rising; typed = w.typed };
  answers = w.final;
}

pub returns-clause-whole : goal.returns-clause-whole
returns-clause-whole c = λ query items entries w e. record {
  ordered = record { rising = w.rising; typed = w.typed };
  answers = λ t i. w.done t (omega (arith, e, i)) i;
}
