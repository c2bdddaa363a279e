use Rattle.std.proofs.Common.{refl}
use Rattle.pipes_standing.proofs.Calming.{takes-in}
use Rattle.pipes_standing.proofs.standing.Standing.put.Goals as goal

pub returns-clause-takes : goal.returns-clause-takes
returns-clause-takes g c =
    takes-in c.args.self.now _ c.args.source c.args.message c.in_ok-put.ensures.puts refl
    c.requires.may
