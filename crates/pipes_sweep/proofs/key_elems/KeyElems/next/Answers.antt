use Rattle.std.specs.Option.{IsSome}
use Rattle.pipes_sweep.specs.Numbers.{element}
use Rattle.pipes_sweep.proofs.Numbers.{left_after}
use Rattle.pipes_sweep.proofs.key_elems.KeyElems.next.Goals as goal

pub invariant_of-self : goal.invariant_of-self
invariant_of-self g c =
    left_after (λ n. IsSome (element n c.self.inside.store.now)) c.next_number.result _ _
    c.next_number.ensures c.self.invariant
