use Rattle.pipes_group.specs.GroupedLaw.{group_holds}
use Rattle.pipes_group.proofs.group.Group.holds_what_lives.Goals as goal

pub returns : goal.returns
returns c = λ taken sent s. group_holds c.args.self.now taken sent s
