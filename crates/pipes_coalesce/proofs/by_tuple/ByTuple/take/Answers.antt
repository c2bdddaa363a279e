use Rattle.std.proofs.Common.{◌≡◌, ℕ, ◌+◌, ◌-◌, ◌≤◌, length, arith}
use Rattle.pipes_stream.specs.Weights.{weigh}
use Rattle.pipes_coalesce.specs.Filed.{contents}
use Rattle.pipes_coalesce.proofs.Filing.{out-length}
use Rattle.pipes_coalesce.proofs.by_tuple.ByTuple.take.Goals as goal

pub overflow_sub-self : goal.overflow_sub-self
overflow_sub-self c =
    let n = out-length c.in-Some.elem (contents c.self.inside.table.entries)
    (contents c.take_from.new.table.entries) c.in-Some.ensures.found.1 in
    omega (arith, n, c.self.invariant.1)

pub invariant_of-self : goal.invariant_of-self
invariant_of-self c =
    let n = out-length c.in-Some.elem (contents c.self.inside.table.entries)
    (contents c.take_from.new.table.entries) c.in-Some.ensures.found.1 in
    (c.in-Some.ensures.filed, omega (arith, n, c.self.invariant.1))
