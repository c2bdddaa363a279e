use Rattle.std.proofs.lemmas.Result.{on_err_weaker}
use Rattle.std.proofs.Common.{[], ◌∷◌}
use Rattle.pipes_tuple.specs.Texts.{escaped}
use Rattle.std.proofs.KnownBytes.{Appends-trans}
use Rattle.pipes_buffer.proofs.Appended.{on_err, prefix_in, prefix_after}
use Rattle.pipes_error.proofs.name.write_name.Goals as goal

pub returns-in_err-write_all-clause-prefix : goal.returns-in_err-write_all-clause-prefix
returns-in_err-write_all-clause-prefix g c = on_err c.from_residual.result
    (prefix_in _ _ (34 ∷ escaped c.args.name.now) (34 ∷ []) (prefix_in _ _ (34 ∷ [])
    (escaped c.args.name.now) c.in_err-write_all.ensures.err))

pub returns-in_err-write_escaped-clause-prefix : goal.returns-in_err-write_escaped-clause-prefix
returns-in_err-write_escaped-clause-prefix g c = on_err c.from_residual-in_err-write_escaped.result
    (prefix_in _ _ (34 ∷ escaped c.args.name.now) (34 ∷ []) (prefix_after _ _ _ (34 ∷ [])
    (escaped c.args.name.now) c.in_ok-write_all.ensures.ok c.in_err-write_escaped.ensures.prefix))

pub returns-clause-prefix : goal.returns-clause-prefix
returns-clause-prefix g c = on_err_weaker c.write_all-2.result (λ prefix. prefix_after _ _ _
    (34 ∷ escaped c.args.name.now) (34 ∷ []) (Appends-trans _ _ _ (34 ∷ [])
    (escaped c.args.name.now) c.in_ok-write_all.ensures.ok c.in_ok-write_escaped.ensures.ok) prefix)
    c.write_all-2.ensures.err
