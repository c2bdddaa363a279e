use Rattle.pipes_written.specs.Made.{Made}
use Rattle.pipes_written.proofs.output.Output.push_all.Given as goal

abbrev pub invariant-loop-message : goal.invariant-loop-message
invariant-loop-message l = record {
  made : Made l.initial.self l.self l.yielded;
}
