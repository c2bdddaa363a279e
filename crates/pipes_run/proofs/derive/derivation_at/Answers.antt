use Rattle.std.proofs.Common.{ℕ, List, Some, subst}
use Rattle.pipes_run.specs.Seen.{GivesDerivation}
use Rattle.pipes_run.proofs.Deriving.{gives_derivation}
use Rattle.pipes_run.proofs.derive.derivation_at.Goals as goal

pub returns-clause-gives : goal.returns-clause-gives
returns-clause-gives g c = λ named tells.
    gives_derivation c.args.query.now c.args.name.now (named c.args.name.now) c.in-Ok.bytes.items
    c.derivation_in.result (c.in-Ok.ensures.bytes named tells)
    (subst (λ (l : List ℕ). GivesDerivation c.args.query.now c.args.name.now (Some l)
    c.derivation_in.result) c.as_slice.ensures.value c.derivation_in.ensures.gives)
