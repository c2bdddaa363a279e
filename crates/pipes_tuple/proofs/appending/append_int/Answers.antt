use Rattle.pipes_tuple.proofs.ReadBack.{int_reading-signed_decimal}
use Rattle.pipes_tuple.proofs.appending.append_int.Goals as goal

pub returns-clause-read_back : goal.returns-clause-read_back
returns-clause-read_back c = int_reading-signed_decimal c.args.number c.ranges.number
