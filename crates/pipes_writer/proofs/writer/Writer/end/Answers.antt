use Rattle.std.proofs.lemmas.Result.{on_err_weaker}
use Rattle.pipes_buffer.proofs.Appended.{map_ok, on_err}
use Rattle.pipes_time.specs.Interval.{closed}
use Rattle.pipes_buffer.proofs.Passing.{all-passed}
use Rattle.pipes_semantics.specs.Written.{results}
use Rattle.pipes_writer.proofs.Lines.{short-last}
use Rattle.pipes_writer.proofs.Forms.{stream-kept, normal-kept, part-stream, part-normal}
use Rattle.pipes_writer.proofs.Forms.{all-stream, all-normal}
use Rattle.pipes_writer.proofs.Calls.{normal-end, normal-end-stops, normal-end-cut}
use Rattle.pipes_writer.proofs.writer.Writer.end.Goals as goal

pub returns-in_err-finish-in-Normal-clause-err : goal.returns-in_err-finish-in-Normal-clause-err
returns-in_err-finish-in-Normal-clause-err g c = on_err c.from_residual.result
    (λ init entries h wrote.
    part-normal init _ _ c.in-Normal.text entries closed c.in-Normal.settled c.in-Normal.is
    (normal-end-stops init _ (results entries) h c.in-Normal.settled c.in-Normal.text.items
    (normal-kept init _ _ c.in-Normal.text entries h c.in-Normal.settled c.in-Normal.is wrote)))

pub returns-in-Stream-clause-ok : goal.returns-in-Stream-clause-ok
returns-in-Stream-clause-ok g c = map_ok c.flush.result
    (λ out init entries h wrote. all-stream init _ _ c.in-Stream.text entries c.in-Stream.is
    (all-passed init _ _ _ c.in-Stream.text.items
    (stream-kept init _ _ c.in-Stream.text entries h c.in-Stream.is wrote) out))
    c.flush.ensures.ok

pub returns-in-Stream-clause-err : goal.returns-in-Stream-clause-err
returns-in-Stream-clause-err g c = on_err_weaker c.flush.result
    (λ short init entries h wrote.
    part-stream init _ _ c.in-Stream.text entries closed c.in-Stream.is
    (short-last init _ _ _ c.in-Stream.text.items
    (stream-kept init _ _ c.in-Stream.text entries h c.in-Stream.is wrote) short))
    c.flush.ensures.short

pub returns-in_ok-finish-in-Normal-clause-ok : goal.returns-in_ok-finish-in-Normal-clause-ok
returns-in_ok-finish-in-Normal-clause-ok g c = map_ok c.flush-in-Normal.result
    (λ out init entries h wrote.
    all-normal init _ _ c.in-Normal.text entries c.in-Normal.settled c.in-Normal.is
    (normal-end init _ _ (results entries) h c.in-Normal.settled c.finish.new.self
    c.in-Normal.text.items c.finish.new.out.items
    (normal-kept init _ _ c.in-Normal.text entries h c.in-Normal.settled c.in-Normal.is wrote)
    c.in_ok-finish-in-Normal.ensures.finishes out)) c.flush-in-Normal.ensures.ok

pub returns-in_ok-finish-in-Normal-clause-err : goal.returns-in_ok-finish-in-Normal-clause-err
returns-in_ok-finish-in-Normal-clause-err g c = on_err_weaker c.flush-in-Normal.result
    (λ prefix init entries h wrote.
    part-normal init _ _ c.in-Normal.text entries closed c.in-Normal.settled c.in-Normal.is
    (normal-end-cut init _ _ (results entries) h c.in-Normal.settled
    c.finish.new.self c.in-Normal.text.items c.finish.new.out.items
    (normal-kept init _ _ c.in-Normal.text entries h c.in-Normal.settled c.in-Normal.is wrote)
    c.in_ok-finish-in-Normal.ensures.finishes prefix)) c.flush-in-Normal.ensures.prefix
