use Rattle.std.proofs.Common.{refl}
use Rattle.pipes_error.specs.Fault.{fault_seen}
use Rattle.pipes_run.specs.Errand as errand
use Rattle.pipes_run.specs.Outcome.{FaultCounts}
use Rattle.pipes_run.specs.Seen.{step_fault}
use Rattle.pipes_run.proofs.Composing.{ran_unread, ran_unstarted, ran_read}
use Rattle.pipes_run.proofs.Declared.{sources_some, sources_known}
use Rattle.pipes_run.proofs.derive.derive_query.Goals as goal

pub returns-in_default : goal.returns-in_default
returns-in_default g c = ran_unstarted (errand.Derive c.args.query.now c.args.derivation.now)
    (g.F.Files.known c.args.files.now) _ _ (g.K.Sink.written c.args.out.now)

pub derive_checked-requires-clause-sources : goal.derive_checked-requires-clause-sources
derive_checked-requires-clause-sources g c κs within =
    sources_some c.in-Ok-query_at.checked.query c.in-Ok-query_at.ensures.text

pub derive_checked-requires-clause-named : goal.derive_checked-requires-clause-named
derive_checked-requires-clause-named g c κs within =
    sources_known c.in-Ok-query_at.checked.query c.in-Ok-query_at.ensures.text

pub returns-in-Ok-query_at : goal.returns-in-Ok-query_at
returns-in-Ok-query_at g c =
    let before : FaultCounts = record {
      files = g.F.Files.faults c.args.files.now;
      searches =
          g.F.Files.failed_searches c.args.files.now;
      out = g.K.Sink.faults c.args.out.now;
    } in
    let mid : FaultCounts = record {
      files = g.F.Files.faults c.query_at.new.files;
      searches =
          g.F.Files.failed_searches c.query_at.new.files;
      out = g.K.Sink.faults c.args.out.now;
    } in
    let now : FaultCounts = record {
      files = g.F.Files.faults c.derive_checked.new.files;
      searches =
          g.F.Files.failed_searches c.derive_checked.new.files;
      out =
          g.K.Sink.faults c.derive_checked.new.out;
    } in
    let read = c.in-Ok-query_at.ensures in
    ran_read (errand.Derive c.args.query.now c.args.derivation.now)
    c.in-Ok-query_at.checked.query (g.F.Files.known c.args.files.now)
    (g.F.Files.known c.query_at.new.files) before mid now
    (g.K.Sink.written c.args.out.now) (g.K.Sink.written c.derive_checked.new.out)
    (step_fault c.derive_checked.result) read.known read.later read.searches refl read.gives
    (λ files other tells holds. read.only files other tells holds)
    (c.derive_checked.ensures c.args.query.now)

pub returns : goal.returns
returns g c =
    let read = c.in-Err.ensures in
    ran_unread (errand.Derive c.args.query.now c.args.derivation.now)
    (g.F.Files.known c.args.files.now) _ _ (g.K.Sink.written c.args.out.now)
    (fault_seen c.in-Err.fault) read.served read.cause read.gives
    (λ files query tells holds. read.only files query tells holds)
