use Rattle.std.proofs.lemmas.Result.{on_err_weaker}
use Rattle.std.proofs.Common.{sym}
use Rattle.pipes_buffer.proofs.Appended.{on_err, prefix_as, prefix_in, prefix_after}
use Rattle.pipes_error.proofs.Saying.{first_piece}
use Rattle.pipes_error.proofs.piece.+write_spaced.Goals as goal

pub returns-in_err-write_after_space-in-len1-up-clause-prefix :
    goal.returns-in_err-write_after_space-in-len1-up-clause-prefix
returns-in_err-write_after_space-in-len1-up-clause-prefix g t c =
    let ps = c.args.pieces.now in
    on_err c.from_residual.result (prefix_as _ _ _ _
    (sym (first_piece ps _ c.in-len1-up.len_at_least))
    (prefix_in _ _ _ _ c.in_err-write_after_space-in-len1-up.ensures.prefix))

pub returns-in_ok-write_after_space-in-len1-up-clause-prefix :
    goal.returns-in_ok-write_after_space-in-len1-up-clause-prefix
returns-in_ok-write_after_space-in-len1-up-clause-prefix g t c =
    let ps = c.args.pieces.now in
    on_err_weaker c.write_spaced.result (λ prefix. prefix_as _ _ _ _
    (sym (first_piece ps _ c.in-len1-up.len_at_least))
    (prefix_after _ _ _ _ _ c.in_ok-write_after_space-in-len1-up.ensures.ok prefix))
    c.write_spaced.ensures.prefix
