use Rattle.std.proofs.Common.{map, string_bytes, None, refl}
use Rattle.pipes_error.specs.Fault.{fault_seen}
use Rattle.pipes_run.proofs.Calls.{says_nothing, complete}
use Rattle.pipes_run.proofs.pipes.Goals as goal

pub returns-in-Ok-clause-call : goal.returns-in-Ok-clause-call
returns-in-Ok-clause-call g c = record {
  fault = None;
  status_is = refl;
  ran = c.in-Ok.ensures;
  says = says_nothing (g.K.Sink.written c.args.err.now) (g.K.Sink.faults c.args.err.now);
}

pub returns-in-Err-clause-complete : goal.returns-in-Err-clause-complete
returns-in-Err-clause-complete g c =
    complete (map string_bytes c.args.words.now) (g.F.Files.known c.args.files.now) _ _
    (g.K.Sink.written c.args.out.now) (g.K.Sink.written c.do_command.new.out)
    (fault_seen c.in-Err.fault) c.status.result c.status.ensures c.in-Err.ensures
