use Rattle.std.proofs.Common.{◌≤◌, ◌++◌, length, List}
use Rattle.pipes_token.specs.declared.token.Token.{Token}
use Rattle.pipes_token.specs.Tokens.{Tokens}
use Rattle.pipes_token.proofs.lex.tokens.Given as goal

abbrev pub invariant-tokens : goal.invariant-tokens
invariant-tokens l = record {
  whole : (more : List Token) → Tokens (length l.fn.bytes) l.rest more
      → Tokens (length l.fn.bytes) l.fn.bytes (l.made.items ++ more);
  bound : length l.rest ≤ length l.fn.bytes;
}

abbrev pub decreases-tokens : goal.decreases-tokens
decreases-tokens l = length l.rest
