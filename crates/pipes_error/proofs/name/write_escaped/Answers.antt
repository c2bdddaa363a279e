use Rattle.std.proofs.lemmas.Result.{on_err_weaker}
use Rattle.std.proofs.Common.{rules, refl, []}
use Rattle.std.proofs.KnownBytes.{Appends-nil}
use Rattle.pipes_buffer.proofs.Appended.{on_err, map_ok}
use Rattle.pipes_error.proofs.Names.{said-more, said-prefix, said-end, said-end-prefix}
use Rattle.pipes_error.proofs.name.write_escaped.Goals as goal

pub runs-init : goal.runs-init
runs-init g c = record { later = search rules; said = ([], Appends-nil _, refl) }

pub returns-in_err-write_both-clause-prefix : goal.returns-in_err-write_both-clause-prefix
returns-in_err-write_both-clause-prefix g c = on_err c.from_residual.result
    (said-prefix _ _ _ c.args.name.now c.runs.rest.now c.in-Some.others.now c.in-Some.plain.now
    c.in-Some.escape.now c.runs.invariant.said c.in-Some.ensures.cases
    c.in_err-write_both.ensures.prefix)

pub runs-preserved : goal.runs-preserved
runs-preserved g c = record {
  later = search rules;
  said = said-more _ _ _ c.args.name.now c.runs.rest.now c.in-Some.others.now c.in-Some.plain.now
      c.in-Some.escape.now c.runs.invariant.said c.in-Some.ensures.cases
      c.in_ok-write_both.ensures.ok;
}

pub returns-clause-ok : goal.returns-clause-ok
returns-clause-ok g c = map_ok c.write_all.result (λ ok. said-end _ _ _ c.args.name.now
    c.runs.rest.now c.runs.invariant.said c.in_default.ensures.cases ok) c.write_all.ensures.ok

pub returns-clause-prefix : goal.returns-clause-prefix
returns-clause-prefix g c = on_err_weaker c.write_all.result (λ prefix. said-end-prefix _ _ _
    c.args.name.now
    c.runs.rest.now c.runs.invariant.said c.in_default.ensures.cases prefix) c.write_all.ensures.err
