use Rattle.std.proofs.Common.{ℕ, List, sym, subst}
use Rattle.pipes_settled.specs.Standing.{Gives}
use Rattle.pipes_settled.proofs.Calls.{on_same, err-same}
use Rattle.pipes_settled.proofs.settled.Settled.advance.Goals as goal

pub returns-clause-advances : goal.returns-clause-advances
returns-clause-advances c =
    on_same c.push_certain-tried.result c.all_or_nothing.result c.all_or_nothing.ensures.same
    c.push_certain-tried.ensures.advances c.all_or_nothing.ensures.ok
    (λ h same elems from text s le.
    subst (λ (bs : List ℕ). Gives c.args.out.now.items bs elems c.args.h text
    c.push_certain-tried.new.self) (sym same) (h elems from text s le))

pub returns-clause-memory : goal.returns-clause-memory
returns-clause-memory c =
    err-same c.push_certain-tried.result c.all_or_nothing.result _ c.all_or_nothing.ensures.same
    c.push_certain-tried.ensures.memory
