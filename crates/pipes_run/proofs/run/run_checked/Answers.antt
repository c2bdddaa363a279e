use Rattle.std.proofs.Common.{refl}
use Rattle.pipes_error.specs.Fault.{fault_seen}
use Rattle.pipes_run.specs.Outcome.{FaultCounts}
use Rattle.pipes_run.specs.Seen.{step_fault}
use Rattle.pipes_run.proofs.Scripts.{script_refused, script_run}
use Rattle.pipes_run.proofs.run.run_checked.Goals as goal

pub returns-in-Ok : goal.returns-in-Ok
returns-in-Ok g c = λ name.
    let before : FaultCounts = record {
      files = g.F.Files.faults c.args.files.now;
      searches = g.F.Files.failed_searches c.args.files.now;
      out = g.K.Sink.faults c.args.out.now;
    } in
    let mid : FaultCounts = record {
      files = g.F.Files.faults c.no_commands.new.files;
      searches = g.F.Files.failed_searches c.no_commands.new.files;
      out = g.K.Sink.faults c.args.out.now;
    } in
    let now : FaultCounts = record {
      files = g.F.Files.faults c.run_over.new.files;
      searches = g.F.Files.failed_searches c.run_over.new.files;
      out = g.K.Sink.faults c.run_over.new.out;
    } in
    let empty = c.in-Ok.ensures in
    script_run name c.args.script.now c.args.settings.form c.args.query.now
    (g.F.Files.known c.args.files.now) (g.F.Files.known c.no_commands.new.files) before mid now
    (g.K.Sink.written c.args.out.now) (g.K.Sink.written c.run_over.new.out)
    (step_fault c.run_over.result) empty.known empty.later empty.searches refl
    (λ files tells. empty.gives files tells) c.run_over.ensures

pub returns-in-Err : goal.returns-in-Err
returns-in-Err g c = λ name.
    script_refused name c.args.script.now c.args.settings.form c.args.query.now
    (g.F.Files.known c.args.files.now) _ _ (g.K.Sink.written c.args.out.now)
    (fault_seen c.in-Err.fault) c.in-Err.ensures.served c.in-Err.ensures.cause
    c.in-Err.ensures.gives
