use Rattle.std.proofs.Common.{false}
use Rattle.pipes_packer.proofs.Packs.{packed-none}
use Rattle.pipes_packer.proofs.packer.Packer.new.Goals as goal

pub returns-in-Some-clause-none : goal.returns-in-Some-clause-none
returns-in-Some-clause-none c zero =
    packed-none c.args.seat c.new-in-Some.result c.in-Some.arrivals false c.new-in-Some.ensures
    c.in-Some.ensures.none zero
