use Rattle.std.proofs.Common.{subst, sym}
use Rattle.pipes_window.specs.declared.item.Item.{Item}
use Rattle.pipes_window.specs.Valid.{Gathers}
use Rattle.pipes_answer.proofs.Taken.{gathers-beat}
use Rattle.pipes_answer.proofs.source.take.Goals as goal

pub returns-in-Beat : goal.returns-in-Beat
returns-in-Beat c = subst (λ (i : Item). Gathers c.args.rows.now c.args.rows.now i)
    (sym c.in-Beat.is) (gathers-beat c.args.rows.now c.in-Beat.field-0)
