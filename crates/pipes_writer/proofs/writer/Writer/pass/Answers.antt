use Rattle.std.proofs.lemmas.Result.{on_err_weaker}
use Rattle.pipes_buffer.proofs.Appended.{on_err}
use Rattle.pipes_semantics.specs.Written.{results}
use Rattle.pipes_writer.proofs.Lines.{all-out, both-ok, short-last}
use Rattle.pipes_writer.proofs.Forms.{stream-kept, normal-kept, part-stream, part-normal}
use Rattle.pipes_writer.proofs.Calls.{normal-pass, normal-pass-stops, normal-pass-cut}
use Rattle.pipes_writer.proofs.writer.Writer.pass.Goals as goal

pub returns-in_err-advance-in-Normal-clause-err : goal.returns-in_err-advance-in-Normal-clause-err
returns-in_err-advance-in-Normal-clause-err g c = on_err c.from_residual.result
    (λ init entries from wrote low high.
    part-normal init _ _ c.in-Normal.text entries c.args.h c.in-Normal.settled c.in-Normal.is
    (normal-pass-stops init _ (results entries) from c.args.h c.in-Normal.settled
    c.in-Normal.text.items
    (normal-kept init _ _ c.in-Normal.text entries from c.in-Normal.settled c.in-Normal.is wrote)
    low))

pub returns-in-Stream-clause-ok : goal.returns-in-Stream-clause-ok
returns-in-Stream-clause-ok g c = both-ok c.flush.result
    (λ out none init entries from wrote low high. all-out init _ _ _ c.in-Stream.text.items
    c.flush.new.text.items (stream-kept init _ _ c.in-Stream.text entries from c.in-Stream.is wrote)
    out none) c.flush.ensures.ok c.flush.ensures.none

pub returns-in-Stream-clause-err : goal.returns-in-Stream-clause-err
returns-in-Stream-clause-err g c = on_err_weaker c.flush.result
    (λ short init entries from wrote low high.
    part-stream init _ _ c.in-Stream.text entries c.args.h c.in-Stream.is
    (short-last init _ _ _ c.in-Stream.text.items
    (stream-kept init _ _ c.in-Stream.text entries from c.in-Stream.is wrote) short))
    c.flush.ensures.short

pub returns-in_ok-advance-in-Normal-clause-ok : goal.returns-in_ok-advance-in-Normal-clause-ok
returns-in_ok-advance-in-Normal-clause-ok g c = both-ok c.flush-in-Normal.result
    (λ out none init entries from wrote low high. normal-pass init _ _ (results entries) from
    c.args.h c.in-Normal.settled c.advance.new.self c.in-Normal.text.items
    c.advance.new.out.items c.flush-in-Normal.new.text.items
    (normal-kept init _ _ c.in-Normal.text entries from c.in-Normal.settled c.in-Normal.is wrote)
    low high c.in_ok-advance-in-Normal.ensures.advances out none) c.flush-in-Normal.ensures.ok
    c.flush-in-Normal.ensures.none

pub returns-in_ok-advance-in-Normal-clause-err : goal.returns-in_ok-advance-in-Normal-clause-err
returns-in_ok-advance-in-Normal-clause-err g c = on_err_weaker c.flush-in-Normal.result
    (λ prefix init entries from wrote low high.
    part-normal init _ _ c.in-Normal.text entries c.args.h c.in-Normal.settled c.in-Normal.is
    (normal-pass-cut init _ _ (results entries) from c.args.h
    c.in-Normal.settled c.advance.new.self c.in-Normal.text.items c.advance.new.out.items
    (normal-kept init _ _ c.in-Normal.text entries from c.in-Normal.settled c.in-Normal.is wrote)
    low c.in_ok-advance-in-Normal.ensures.advances prefix)) c.flush-in-Normal.ensures.prefix
