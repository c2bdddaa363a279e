use Rattle.std.proofs.lemmas.Result.{on_err_weaker}
use Rattle.std.proofs.Common.{◌++◌, List, ℕ, codes, subst}
use Rattle.std.specs.Io.KnownBytes.{Appends}
use Rattle.std.proofs.KnownBytes.{Appends-trans}
use Rattle.pipes_buffer.proofs.Appended.{on_err, map_ok, prefix_as, prefix_in}
use Rattle.pipes_buffer.proofs.Appended.{prefix_after}
use Rattle.pipes_error.specs.Pieces.{spaced}
use Rattle.pipes_error.proofs.Saying.{known_spaced}
use Rattle.pipes_error.proofs.piece.write_line.Goals as goal

pub returns-in_err-write_all-clause-prefix : goal.returns-in_err-write_all-clause-prefix
returns-in_err-write_all-clause-prefix g c =
    let ps = c.args.pieces.now in
    on_err c.from_residual.result (prefix_as _ _ _ _ (known_spaced ps)
    (prefix_in _ _ (codes "pipes:" ++ spaced ps) (codes "\n")
    (prefix_in _ _ (codes "pipes:") (spaced ps) c.in_err-write_all.ensures.err)))

pub returns-in_err-write_spaced-clause-prefix : goal.returns-in_err-write_spaced-clause-prefix
returns-in_err-write_spaced-clause-prefix g c =
    let ps = c.args.pieces.now in
    on_err c.from_residual-in_err-write_spaced.result (prefix_as _ _ _ _ (known_spaced ps)
    (prefix_in _ _ (codes "pipes:" ++ spaced ps) (codes "\n")
    (prefix_after _ _ _ (codes "pipes:") (spaced ps) c.in_ok-write_all.ensures.ok
    c.in_err-write_spaced.ensures.prefix)))

pub returns-clause-ok : goal.returns-clause-ok
returns-clause-ok g c =
    let ps = c.args.pieces.now in
    let before = Appends-trans _ _ _ (codes "pipes:") (spaced ps) c.in_ok-write_all.ensures.ok
    c.in_ok-write_spaced.ensures.ok in
    map_ok c.write_all-2.result (λ last. subst (λ (l : List ℕ). Appends
    (g.K.Sink.written c.args.err.now) (g.K.Sink.written c.write_all-2.new.out) l)
    (known_spaced ps) (Appends-trans _ _ _ (codes "pipes:" ++ spaced ps) (codes "\n") before
    last)) c.write_all-2.ensures.ok

pub returns-clause-prefix : goal.returns-clause-prefix
returns-clause-prefix g c =
    let ps = c.args.pieces.now in
    let before = Appends-trans _ _ _ (codes "pipes:") (spaced ps) c.in_ok-write_all.ensures.ok
    c.in_ok-write_spaced.ensures.ok in
    on_err_weaker c.write_all-2.result (λ prefix. prefix_as _ _ _ _ (known_spaced ps)
    (prefix_after _ _ _ (codes "pipes:" ++ spaced ps) (codes "\n") before prefix))
    c.write_all-2.ensures.err
