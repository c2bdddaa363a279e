use Rattle.std.proofs.Common.{ℕ, List, Option, sym, subst}
use Rattle.pipes_run.specs.Errand as errand
use Rattle.pipes_error.specs.Fault.{Fault, fault_seen}
use Rattle.pipes_run.specs.Outcome.{FaultCounts, IsVerdict, RanAfter}
use Rattle.pipes_run.proofs.Deriving.{verdict_written, derivation_unread}
use Rattle.pipes_run.proofs.derive.derive_checked.Goals as goal

pub returns-in-Ok-verdict : goal.returns-in-Ok-verdict
returns-in-Ok-verdict g c = λ query_name.
    let before : FaultCounts = record {
      files = g.F.Files.faults c.args.files.now;
      searches = g.F.Files.failed_searches c.args.files.now;
      out = g.K.Sink.faults c.args.out.now;
    } in
    let now : FaultCounts = record {
      files = g.F.Files.faults c.derivation_at.new.files;
      searches = g.F.Files.failed_searches c.derivation_at.new.files;
      out = g.K.Sink.faults c.write_text.new.out;
    } in
    let verdict : IsVerdict c.args.query.now c.in-Ok.derivation c.as_slice.result.now =
    subst (IsVerdict c.args.query.now c.in-Ok.derivation) (sym c.as_slice.ensures.value)
    c.in-Ok-verdict.ensures in
    subst (RanAfter (errand.Derive query_name c.args.name.now) c.args.query.now
    (g.F.Files.known c.args.files.now) before now (g.K.Sink.written c.args.out.now)
    (g.K.Sink.written c.write_text.new.out)) (sym c.written.ensures)
    (verdict_written query_name c.args.name.now c.args.query.now
    (g.F.Files.known c.args.files.now) before now c.in-Ok.derivation
    (g.K.Sink.written c.args.out.now) (g.K.Sink.written c.write_text.new.out)
    c.as_slice.result.now c.write_text.result verdict
    (λ files tells. c.in-Ok.ensures.gives files tells)
    (λ files other tells held. c.in-Ok.ensures.only files other tells held)
    c.write_text.ensures.ok c.write_text.ensures.prefix c.write_text.ensures.cause)

pub returns : goal.returns
returns g c = λ query_name.
    derivation_unread query_name c.args.name.now c.args.query.now
    (g.F.Files.known c.args.files.now) _ _ (g.K.Sink.written c.args.out.now)
    (fault_seen c.in-Err.fault) c.in-Err.ensures.served c.in-Err.ensures.cause
    (λ files tells. c.in-Err.ensures.gives files tells)
    (λ files derivation tells held. c.in-Err.ensures.only files derivation tells held)
