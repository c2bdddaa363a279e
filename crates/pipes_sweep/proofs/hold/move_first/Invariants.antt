use Rattle.std.proofs.Common.{◌≡◌, ℕ, ◌+◌, ◌-◌, ◌≤◌, ◌++◌, take, drop, length, vec_len}
use Rattle.std.proofs.Common.{vec_capacity}
use Rattle.pipes_sweep.proofs.hold.move_first.Given as goal

abbrev pub invariant-loop-moved : goal.invariant-loop-moved
invariant-loop-moved l = record {
  below : l.moved ≤ l.count;
  there : l.count ≤ length l.initial.waiting.items;
  appended : l.out.items ≡ l.initial.out.items ++ take l.moved l.initial.waiting.items;
  kept : l.waiting.items ≡ drop l.moved l.initial.waiting.items;
  room : vec_len l.out + l.count ≤ vec_capacity l.out + l.moved;
}

abbrev pub decreases-loop-moved : goal.decreases-loop-moved
decreases-loop-moved l = l.count - l.moved
