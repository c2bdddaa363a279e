use Rattle.std.proofs.Common.{ℕ, ◌++◌, sym, subst}
use Rattle.pipes_written.specs.Written.{IsWritten, results_of}
use Rattle.pipes_written.proofs.Writes.{written-results}
use Rattle.pipes_written.proofs.output.Output.write.Goals as goal

pub returns-in-Ok-clause-written : goal.returns-in-Ok-clause-written
returns-in-Ok-clause-written c = λ kinds answer entries w more.
    subst (λ (m : ℕ). IsWritten kinds answer m (entries ++ results_of c.args.sent.now.items))
    (sym c.in-Ok.ensures.made.beat)
    (written-results kinds answer c.args.self.now.beat entries c.args.sent.now.items more w)
