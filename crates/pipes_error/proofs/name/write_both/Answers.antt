use Rattle.std.proofs.lemmas.Result.{on_err_weaker}
use Rattle.pipes_buffer.proofs.Appended.{on_err, prefix_in, prefix_after}
use Rattle.pipes_error.proofs.name.write_both.Goals as goal

pub returns-in_err-write_all-clause-prefix : goal.returns-in_err-write_all-clause-prefix
returns-in_err-write_all-clause-prefix g c = on_err c.from_residual.result
    (prefix_in _ _ c.args.first.now c.args.second.now c.in_err-write_all.ensures.err)

pub returns-clause-prefix : goal.returns-clause-prefix
returns-clause-prefix g c = on_err_weaker c.write_all-2.result (λ prefix. prefix_after _ _ _
    c.args.first.now
    c.args.second.now c.in_ok-write_all.ensures.ok prefix) c.write_all-2.ensures.err
