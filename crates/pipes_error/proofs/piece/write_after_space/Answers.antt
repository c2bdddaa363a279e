use Rattle.std.proofs.lemmas.Result.{on_err_weaker}
use Rattle.std.proofs.Common.{codes}
use Rattle.pipes_buffer.proofs.Appended.{prefix_after}
use Rattle.pipes_error.specs.Pieces.{piece_text}
use Rattle.pipes_error.proofs.piece.write_after_space.Goals as goal

pub returns-clause-prefix : goal.returns-clause-prefix
returns-clause-prefix g c = on_err_weaker c.write_piece.result
    (λ prefix. prefix_after _ _ _ (codes " ")
    (piece_text c.args.piece.now) c.in_ok-write_all.ensures.ok prefix) c.write_piece.ensures.prefix
