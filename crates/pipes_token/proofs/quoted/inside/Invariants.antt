use Rattle.std.proofs.Common.{◌≤◌, ◌++◌, length, List, ℕ, string_bytes}
use Rattle.pipes_token.specs.Strings.{IsInside}
use Rattle.pipes_token.proofs.quoted.inside.Given as goal

abbrev pub invariant-characters : goal.invariant-characters
invariant-characters l = record {
  grows : (content left : List ℕ) → IsInside l.rest content left
      → IsInside l.fn.bytes (string_bytes l.content ++ content) left;
  bound : length l.rest ≤ length l.fn.bytes;
}

abbrev pub decreases-characters : goal.decreases-characters
decreases-characters l = length l.rest
