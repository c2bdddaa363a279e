use Rattle.std.proofs.Common.{rules}
use Rattle.std.proofs.KnownBytes.{Appends-nil}
use Rattle.pipes_buffer.proofs.Appended.{on_err, prefix_as}
use Rattle.pipes_run.proofs.check.write_checked.Goals as goal

pub returns-in_err-print_query-clause-prefix : goal.returns-in_err-print_query-clause-prefix
returns-in_err-print_query-clause-prefix g c = on_err c.from_residual.result
    (0, Appends-nil (g.K.Sink.written c.args.out.now))

pub returns-in_err-push_kinds-clause-prefix : goal.returns-in_err-push_kinds-clause-prefix
returns-in_err-push_kinds-clause-prefix g c = on_err c.from_residual-in_err-push_kinds.result
    (0, Appends-nil (g.K.Sink.written c.args.out.now))

pub returns-in_err-write_all-clause-prefix : goal.returns-in_err-write_all-clause-prefix
returns-in_err-write_all-clause-prefix g c = on_err c.from_residual-in_err-write_all.result
    (prefix_as (g.K.Sink.written c.args.out.now) (g.K.Sink.written c.write_all.new.out) _ _
    (search rules) c.in_err-write_all.ensures.err)
