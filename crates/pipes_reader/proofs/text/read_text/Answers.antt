use Rattle.std.proofs.Common.{arith}
use Rattle.pipes_reader.specs.Texts.{past_limit}
use Rattle.pipes_reader.proofs.Wholes.{known_refused}
use Rattle.pipes_reader.proofs.text.read_text.Goals as goal

pub returns-then-bytes-gt-LONGEST_FILE : goal.returns-then-bytes-gt-LONGEST_FILE
returns-then-bytes-gt-LONGEST_FILE g c = past_limit (omega (arith, c.if-bytes-gt-LONGEST_FILE.true))

pub returns-in-Err-Refused : goal.returns-in-Err-Refused
returns-in-Err-Refused g c =
    known_refused (g.P.Parser.reads c.args.parser.now) c.args.bytes.now c.as_slice.result.now
    c.in_ok-tokens.tokens.items c.in-Err-Refused.refusal c.tell.result
    (omega (arith, c.if-bytes-gt-LONGEST_FILE.false)) c.in_ok-tokens.ensures.tokens
    c.as_slice.ensures.value
    (rw c.in-Err-Refused.field-0-is at c.in-Err-Refused.ensures) c.tell.ensures
