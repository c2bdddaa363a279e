use Rattle.std.proofs.Common.{rules, refl}
use Rattle.pipes_group.proofs.Moving.{admits-wide}
use Rattle.pipes_group.proofs.coverage.Coverage.widen.Goals as goal

pub returns : goal.returns
returns c =
    admits-wide c.args.self.now c.set.new.self c.args.elem c.args.slot c.start-start.result _ _
    c.requires (search rules) c.start-start.ensures.value
    c.in_ok-set.ensures.sets c.in_ok-set.ensures.unique c.in_ok-set.ensures.dues refl
