use Rattle.std.proofs.Common.{◌≤◌, length, List, ℕ}
use Rattle.pipes_token.specs.Gaps.{IsPastGap}
use Rattle.pipes_token.proofs.gap.past_gap.Given as goal

abbrev pub invariant-gap : goal.invariant-gap
invariant-gap l = record {
  grows : (here : List ℕ) → IsPastGap l.rest here → IsPastGap l.fn.bytes here;
  bound : length l.rest ≤ length l.fn.bytes;
}

abbrev pub decreases-gap : goal.decreases-gap
decreases-gap l = length l.rest
