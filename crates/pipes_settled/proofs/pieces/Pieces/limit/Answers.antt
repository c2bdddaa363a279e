use Rattle.std.proofs.Common.{refl, sym, subst}
use Rattle.std.specs.Prelude.{IsSome}
use Rattle.pipes_settled.proofs.Tables.{least-at}
use Rattle.pipes_settled.proofs.pieces.Pieces.limit.Goals as goal

pub returns-in-Some : goal.returns-in-Some
returns-in-Some c = (
  (λ s n v h. least-at c.in-Some.key.now (s, v) (c.in-Some.ensures.least (s, v)
      (subst IsSome (sym h) refl))),
  c.in-Some.field-0-1.now,
  c.in-Some.key.now.1,
  c.in-Some.ensures.value,
)
