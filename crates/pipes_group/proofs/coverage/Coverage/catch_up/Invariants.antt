use Rattle.std.proofs.Common.{◌≡◌, ◌++◌, List}
use Rattle.pipes_stream.specs.declared.message.Message.{Message}
use Rattle.pipes_group.specs.Dues.{load}
use Rattle.pipes_group.specs.Covers.{CatchesUp}
use Rattle.pipes_group.proofs.coverage.Coverage.catch_up.Given as goal

abbrev pub invariant-loop-due : goal.invariant-loop-due
invariant-loop-due l = record {
  moves : CatchesUp l.initial.self l.initial.self.dues l.self l.to l.initial.out.items l.out.items;
  grows : (more : List Message) × (l.out.items ≡ l.initial.out.items ++ more);
}

abbrev pub decreases-loop-due : goal.decreases-loop-due
decreases-loop-due l = load l.to l.self.dues
