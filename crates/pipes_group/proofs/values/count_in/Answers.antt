use Rattle.std.proofs.Common.{◌≡◌, ◌+◌, rules, arith}
use Rattle.pipes_group.proofs.Counted.{counted_in}
use Rattle.pipes_group.proofs.values.count_in.Goals as goal

pub returns : goal.returns
returns c =
    let more : c.in_ok-count.count ≡ c.found.result + 1 = search rules in
    let was = c.found.ensures in
    counted_in c.args.value c.in_ok-count.count c.args.values.now c.insert.new.self
    (omega (arith, more, was)) c.in_ok-insert.ensures.updates.0
