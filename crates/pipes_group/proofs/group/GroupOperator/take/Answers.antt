use Rattle.std.proofs.Common.{◌≡◌, ◌<◌, arith}
use Rattle.pipes_group.proofs.group.GroupOperator.take.Goals as goal

pub returns-in-Ok-clause-takes : goal.returns-in-Ok-clause-takes
returns-in-Ok-clause-takes c =
    let small : c.args._port < 1 = c.requires in
    let e : c.args._port ≡ 0 = omega (arith, small) in
    rw e c.in-Ok.ensures.takes
