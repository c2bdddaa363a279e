use Rattle.std.proofs.Common.{◌∙◌, arith}
use Rattle.pipes_tuple.proofs.Reading.{text_reading-utf8, text_reading-not_utf8}
use Rattle.pipes_tuple.proofs.read.read_text.Goals as goal

pub returns-in_default-clause-refusal : goal.returns-in_default-clause-refusal
returns-in_default-clause-refusal c =
    λ _. text_reading-not_utf8 c.args.bytes.now (omega arith) c.in_default.ensures.cases.0

pub returns-in-Ok-new-clause-value : goal.returns-in-Ok-new-clause-value
returns-in-Ok-new-clause-value c =
    let read = text_reading-utf8 c.args.bytes.now (omega arith) c.in-Ok.ensures.cases.1 in
    let same = c.in-Ok-new.ensures.value ∙ c.in-Ok.ensures.cases.0 in
    rw same read

pub returns-in-Err-Memory-clause-memory : goal.returns-in-Err-Memory-clause-memory
returns-in-Err-Memory-clause-memory c =
    let read = text_reading-utf8 c.args.bytes.now (omega arith) c.in-Ok.ensures.cases.1 in
    λ _. rw read
