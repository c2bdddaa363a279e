use Rattle.pipes_sweep.proofs.Numbers.{below_rest}
use Rattle.pipes_sweep.proofs.store.Store.drop_one.Goals as goal

pub invariant_of-self : goal.invariant_of-self
invariant_of-self c =
    rw c.remove.ensures.entries
    (below_rest c.args.number c.self.inside.next c.self.inside.elems.entries c.self.invariant)
