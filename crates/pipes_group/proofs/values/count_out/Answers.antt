use Rattle.std.proofs.Common.{◌-◌, arith}
use Rattle.pipes_group.proofs.Counted.{counted_down, counted_out}
use Rattle.pipes_group.proofs.values.count_out.Goals as goal

pub returns-in_ok-insert : goal.returns-in_ok-insert
returns-in_ok-insert c =
    let was = c.found-count.ensures in
    counted_down c.args.value (c.found-count.result - 1) c.args.values.now c.insert.new.self
    (omega (arith, was)) (omega arith) c.in_ok-insert.ensures.updates.0

pub returns-else-count-gt1 : goal.returns-else-count-gt1
returns-else-count-gt1 c =
    let was = c.found-count.ensures in
    counted_out c.args.value c.args.values.now c.remove.new.self (omega (arith, was))
    c.remove.ensures.updates.0
