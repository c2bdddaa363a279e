use Rattle.std.proofs.Common.{arith}
use Rattle.pipes_settled.specs.Standing.{at_cmp}
use Rattle.pipes_settled.proofs.Tables.{exact-at, put-from}
use Rattle.pipes_settled.proofs.settled.begin.Goals as goal

pub returns : goal.returns
returns c =
    let old = c.change_at-old.ensures in
    let more = c.in-Some.ensures in
    record {
      change = _;
      put = put-from at_cmp exact-at c.args.changes.now c.insert.new.self (c.args.at, c.args.tuple)
          _ c.in_ok-insert.ensures.updates;
      begins = omega (arith, old.begins, more);
      ends = omega (arith, old.ends, more);
    }
