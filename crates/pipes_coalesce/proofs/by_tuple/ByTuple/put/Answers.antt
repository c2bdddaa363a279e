use Rattle.std.proofs.Common.{◌≡◌, ℕ, ◌+◌, ◌-◌, ◌≤◌, length, arith}
use Rattle.pipes_coalesce.specs.Filed.{contents}
use Rattle.pipes_coalesce.proofs.Filing.{in-length}
use Rattle.pipes_coalesce.proofs.by_tuple.ByTuple.put.Goals as goal

pub invariant_of-self-2 : goal.invariant_of-self-2
invariant_of-self-2 c =
    let n = in-length c.args.elem (contents c.self.inside.table.entries)
    (contents c.put_in.new.table.entries) c.in_ok-put_in.ensures.added in
    (c.in_ok-put_in.ensures.filed, omega (arith, n, c.self.invariant.1))
