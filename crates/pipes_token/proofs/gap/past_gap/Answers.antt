use Rattle.std.proofs.Common.{arith, rules}
use Rattle.pipes_token.proofs.Gaps.{more_separator, more_comment, past_token, past_all}
use Rattle.pipes_token.proofs.gap.past_gap.Goals as goal

pub gap-preserved-then-is_separator_byte : goal.gap-preserved-then-is_separator_byte
gap-preserved-then-is_separator_byte c = record {
  grows = λ here p. c.gap.invariant.grows here (more_separator c.in-Some.byte c.gap.rest.now
      c.in-Some.later.now here c.in-Some.ensures.parts (search rules) p);
  bound = omega (arith, c.in-Some.ensures.shorter);
}

pub gap-preserved : goal.gap-preserved
gap-preserved c = record {
  grows = λ here p. c.gap.invariant.grows here (more_comment c.in-Some.byte c.gap.rest.now
      c.in-Some.later.now c.line_end-rest.result.now here c.in-Some.ensures.parts
      c.if-byte-eq35.true c.line_end-rest.ensures.value p);
  bound = omega (arith, c.in-Some.ensures.shorter, c.line_end-rest.ensures.bound);
}

pub returns-else-byte-eq35-clause-past : goal.returns-else-byte-eq35-clause-past
returns-else-byte-eq35-clause-past c = c.gap.invariant.grows c.gap.rest.now
    (past_token c.in-Some.byte c.gap.rest.now c.in-Some.later.now c.in-Some.ensures.parts
    (search rules) c.if-byte-eq35.false)

pub returns-in-None-clause-past : goal.returns-in-None-clause-past
returns-in-None-clause-past c = c.gap.invariant.grows c.gap.rest.now
    (past_all c.gap.rest.now c.in-None.ensures.parts)
