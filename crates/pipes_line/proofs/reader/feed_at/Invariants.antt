use Rattle.std.proofs.Common.{◌≡◌, take, true}
use Rattle.pipes_line.specs.Bytes.{has_no_feed}
use Rattle.pipes_line.proofs.reader.feed_at.Given as goal

abbrev pub invariant-loop-i : goal.invariant-loop-i
invariant-loop-i l = has_no_feed (take l.i l.bytes) ≡ true
