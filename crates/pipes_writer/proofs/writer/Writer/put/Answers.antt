use Rattle.std.proofs.Common.{◌++◌, ◌∷◌, []}
use Rattle.std.proofs.lemmas.Result.{on_err_weaker}
use Rattle.pipes_buffer.proofs.Appended.{map_ok, on_err}
use Rattle.pipes_writer.proofs.Lines.{line-put, line-cut}
use Rattle.pipes_writer.proofs.Forms.{stream-kept, normal-kept, part-stream, part-normal}
use Rattle.pipes_writer.proofs.Calls.{normal-put, normal-put-stops}
use Rattle.pipes_writer.proofs.writer.Writer.put.Goals as goal

pub returns-in-Stream-clause-ok : goal.returns-in-Stream-clause-ok
returns-in-Stream-clause-ok g c = map_ok c.put_line.result
    (λ ok init entries h wrote comes. line-put init _ _ entries c.args.entry c.in-Stream.text.items
    c.put_line.new.text.items (stream-kept init _ _ c.in-Stream.text entries h c.in-Stream.is wrote)
    ok) c.put_line.ensures.ok

pub returns-in-Stream-clause-err : goal.returns-in-Stream-clause-err
returns-in-Stream-clause-err g c = on_err_weaker c.put_line.result
    (λ short init entries h wrote comes.
    part-stream init _ _ c.in-Stream.text (entries ++ c.args.entry ∷ []) h c.in-Stream.is
    (line-cut init _ _ entries c.args.entry c.in-Stream.text.items
    (stream-kept init _ _ c.in-Stream.text entries h c.in-Stream.is wrote) short))
    c.put_line.ensures.short

pub returns-in-Normal-clause-ok : goal.returns-in-Normal-clause-ok
returns-in-Normal-clause-ok g c = map_ok c.add_result.result
    (λ adds init entries h wrote comes. normal-put init _ entries h c.args.entry
    c.in-Normal.settled c.add_result.new.settled c.in-Normal.field-1.items
    (normal-kept init _ _ c.in-Normal.field-1 entries h c.in-Normal.settled c.in-Normal.is wrote)
    comes adds) c.add_result.ensures.adds

pub returns-in-Normal-clause-err : goal.returns-in-Normal-clause-err
returns-in-Normal-clause-err g c = on_err c.add_result.result
    (λ init entries h wrote comes.
    part-normal init _ _ c.in-Normal.field-1 (entries ++ c.args.entry ∷ []) h c.in-Normal.settled
    c.in-Normal.is (normal-put-stops init _ entries h c.args.entry c.in-Normal.settled
    c.in-Normal.field-1.items
    (normal-kept init _ _ c.in-Normal.field-1 entries h c.in-Normal.settled c.in-Normal.is wrote)
    comes))
