use Rattle.std.proofs.Common.{◌≡◌, ℕ, List, ◌≤◌}
use Rattle.std.specs.BTreeMap.{btree_map_len}
use Rattle.pipes_stream.specs.declared.Elem.{Elem}
use Rattle.pipes_output.specs.Periods.{Period}
use Rattle.pipes_settled.specs.Moves.{IsSettledTo, IsSettling}
use Rattle.pipes_settled.proofs.settled.Settled.settle.Given as goal

abbrev pub invariant-changes : goal.invariant-changes
invariant-changes l = record {
  settling : (elems : List Elem) (from : ℕ) (given : List Period)
      → IsSettledTo elems from given l.initial.self → from ≤ l.h
      → IsSettling elems from l.h given l.self;
  flag : l.self.failed ≡ l.initial.self.failed;
}

abbrev pub decreases-changes : goal.decreases-changes
decreases-changes l = btree_map_len l.self.changes
