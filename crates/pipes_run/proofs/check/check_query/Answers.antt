use Rattle.std.proofs.Common.{refl, sym, subst, Option}
use Rattle.pipes_error.specs.Fault.{Fault, fault_seen}
use Rattle.pipes_run.specs.Errand as errand
use Rattle.pipes_run.specs.Outcome.{FaultCounts, RanAfter}
use Rattle.pipes_run.specs.Seen.{step_fault}
use Rattle.pipes_run.proofs.Checking.{printed}
use Rattle.pipes_run.proofs.Composing.{ran_unread, ran_unstarted, ran_read}
use Rattle.pipes_run.proofs.check.check_query.Goals as goal

pub returns-in_default : goal.returns-in_default
returns-in_default g c = ran_unstarted (errand.Check c.args.query.now)
    (g.F.Files.known c.args.files.now) _ _ (g.K.Sink.written c.args.out.now)

pub returns-in-Ok-query_at : goal.returns-in-Ok-query_at
returns-in-Ok-query_at g c =
    let known = g.F.Files.known c.args.files.now in
    let first = g.K.Sink.written c.args.out.now in
    let last = g.K.Sink.written c.write_checked.new.out in
    let before : FaultCounts = record {
      files = g.F.Files.faults c.args.files.now;
      searches =
          g.F.Files.failed_searches c.args.files.now;
      out = g.K.Sink.faults c.args.out.now;
    } in
    let mid : FaultCounts = record {
      files = g.F.Files.faults c.query_at.new.files;
      searches =
          g.F.Files.failed_searches c.query_at.new.files;
      out = g.K.Sink.faults c.args.out.now;
    } in
    let now : FaultCounts = record {
      files = g.F.Files.faults c.query_at.new.files;
      searches =
          g.F.Files.failed_searches c.query_at.new.files;
      out =
          g.K.Sink.faults c.write_checked.new.out;
    } in
    let read = c.in-Ok-query_at.ensures in
    let query = c.in-Ok-query_at.checked.query in
    let done = c.write_checked.ensures in
    ran_read (errand.Check c.args.query.now) query known (g.F.Files.known c.query_at.new.files)
    before mid now first last (step_fault c.written.result) read.known read.later read.searches
    refl read.gives (λ files other tells holds. read.only files other tells holds)
    (subst (λ (fault : Option Fault). RanAfter (errand.Check c.args.query.now) query
    (g.F.Files.known c.query_at.new.files) mid now first last fault) (sym c.written.ensures)
    (printed c.args.query.now query c.in-Ok-query_at.checked.schema
    (g.F.Files.known c.query_at.new.files) mid now first last c.write_checked.result read.schema
    done.ok done.prefix done.cause))

pub returns : goal.returns
returns g c =
    let read = c.in-Err.ensures in
    ran_unread (errand.Check c.args.query.now) (g.F.Files.known c.args.files.now) _ _
    (g.K.Sink.written c.args.out.now) (fault_seen c.in-Err.fault) read.served read.cause
    read.gives (λ files query tells holds. read.only files query tells holds)
