use Rattle.std.proofs.Common.{◌≡◌, arith}
use Rattle.pipes_pair.proofs.join.Join.take_at.Goals as goal

pub returns-then-port-eq0-clause-takes : goal.returns-then-port-eq0-clause-takes
returns-then-port-eq0-clause-takes g c =
    let e : c.args.port ≡ 0 = omega arith in
    rw e c.take_left.ensures.takes

pub returns-else-port-eq0-clause-takes : goal.returns-else-port-eq0-clause-takes
returns-else-port-eq0-clause-takes g c =
    let e : c.args.port ≡ 1 = omega arith in
    rw e c.take_right.ensures.takes
