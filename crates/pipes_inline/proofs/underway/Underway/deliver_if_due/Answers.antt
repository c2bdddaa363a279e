use Rattle.std.proofs.lemmas.Result.{on_err_weaker}
use Rattle.pipes_inline.proofs.Turning.{counted}
use Rattle.pipes_inline.proofs.underway.Underway.deliver_if_due.Goals as goal

pub returns-clause-err : goal.returns-clause-err
returns-clause-err g c = on_err_weaker c.deliver.result (λ err start lefts faults goes.
    err start lefts faults (counted start lefts faults (g.K.Sink.written c.args.out.now)
    c.args.self.now goes 0)) c.deliver.ensures.err
