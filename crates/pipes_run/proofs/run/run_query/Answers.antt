use Rattle.std.proofs.Common.{refl}
use Rattle.pipes_error.specs.Fault.{fault_seen}
use Rattle.pipes_run.specs.Errand as errand
use Rattle.pipes_run.specs.Outcome.{FaultCounts}
use Rattle.pipes_run.specs.Seen.{step_fault}
use Rattle.pipes_run.proofs.Composing.{ran_unread, ran_unstarted, ran_read}
use Rattle.pipes_run.proofs.Declared.{windows_within}
use Rattle.pipes_run.proofs.run.run_query.Goals as goal

pub returns-in_default : goal.returns-in_default
returns-in_default g c = ran_unstarted (errand.Run c.args.query.now c.args.script.now
    c.args.settings.form)
    (g.F.Files.known c.args.files.now) _ _ (g.K.Sink.written c.args.out.now)

pub run_checked-requires-clause-windows : goal.run_checked-requires-clause-windows
run_checked-requires-clause-windows g c κs within = windows_within c.in-Ok-query_at.checked.query
    c.in-Ok-query_at.ensures.text

pub returns-in-Ok-query_at : goal.returns-in-Ok-query_at
returns-in-Ok-query_at g c =
    let before : FaultCounts = record {
      files = g.F.Files.faults c.args.files.now;
      searches =
          g.F.Files.failed_searches c.args.files.now;
      out = g.K.Sink.faults c.args.out.now;
    } in
    let mid : FaultCounts = record {
      files = g.F.Files.faults c.query_at.new.files;
      searches =
          g.F.Files.failed_searches c.query_at.new.files;
      out = g.K.Sink.faults c.args.out.now;
    } in
    let now : FaultCounts = record {
      files = g.F.Files.faults c.run_checked.new.files;
      searches =
          g.F.Files.failed_searches c.run_checked.new.files;
      out =
          g.K.Sink.faults c.run_checked.new.out;
    } in
    let read = c.in-Ok-query_at.ensures in
    ran_read (errand.Run c.args.query.now c.args.script.now c.args.settings.form)
    c.in-Ok-query_at.checked.query (g.F.Files.known c.args.files.now)
    (g.F.Files.known c.query_at.new.files) before mid now
    (g.K.Sink.written c.args.out.now) (g.K.Sink.written c.run_checked.new.out)
    (step_fault c.run_checked.result) read.known read.later read.searches refl read.gives
    (λ files other tells holds. read.only files other tells holds)
    (c.run_checked.ensures c.args.query.now)

pub returns : goal.returns
returns g c =
    let read = c.in-Err.ensures in
    ran_unread (errand.Run c.args.query.now c.args.script.now c.args.settings.form)
    (g.F.Files.known c.args.files.now) _ _ (g.K.Sink.written c.args.out.now)
    (fault_seen c.in-Err.fault) read.served read.cause read.gives
    (λ files query tells holds. read.only files query tells holds)
