use Rattle.std.proofs.Common.{List, ℕ, [], Some, subst}
use Rattle.pipes_run.specs.Seen.{GivesQuery}
use Rattle.pipes_run.proofs.Queries.{gives_file}
use Rattle.pipes_run.proofs.query.query_at.Goals as goal

pub returns-clause-gives : goal.returns-clause-gives
returns-clause-gives g c = λ named tells.
    gives_file c.args.name.now (named c.args.name.now) c.in-Ok.bytes.items c.query_in.result
    (c.in-Ok.ensures.bytes named tells)
    (subst (λ (bytes : List ℕ). GivesQuery [] (Some bytes) c.query_in.result)
    c.as_slice.ensures.value c.query_in.ensures.gives)
