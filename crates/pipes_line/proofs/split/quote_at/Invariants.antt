use Rattle.std.proofs.Common.{◌≡◌, take, true}
use Rattle.std.specs.List.{list_all}
use Rattle.pipes_line.specs.Bytes.{is_no_quote}
use Rattle.pipes_line.proofs.split.quote_at.Given as goal

abbrev pub invariant-loop-i : goal.invariant-loop-i
invariant-loop-i l = list_all is_no_quote (take l.i l.rest) ≡ true
