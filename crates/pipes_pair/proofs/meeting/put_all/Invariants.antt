use Rattle.std.proofs.Common.{◌+◌, ◌≤◌, ◌++◌, [], List, length}
use Rattle.std.specs.List.{All, flat_map}
use Rattle.pipes_tuple.proofs.Perm.{Perm}
use Rattle.pipes_pair.specs.Meeting.{AreNarrow, joined_from}
use Rattle.pipes_pair.proofs.meeting.put_all.Given as goal

-- what was put and what the rest makes is what all make
abbrev pub invariant-loop-other : goal.invariant-loop-other
invariant-loop-other g l = record {
  narrow : All (AreNarrow l.own) l.initial.others → All (AreNarrow l.own) l.others;
  put : All (AreNarrow l.own) l.initial.others
      → Perm (flat_map (joined_from [] l.condition l.is_left l.own) l.others ++ l.hold)
      (flat_map (joined_from [] l.condition l.is_left l.own) l.initial.others
      ++ l.initial.hold);
  steps : l.steps + length l.others ≤ l.initial.steps + length l.initial.others;
}

abbrev pub decreases-loop-other : goal.decreases-loop-other
decreases-loop-other g l = length l.others
