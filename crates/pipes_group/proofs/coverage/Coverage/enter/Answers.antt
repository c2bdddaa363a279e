use Rattle.std.proofs.Common.{refl}
use Rattle.pipes_group.proofs.Moving.{admits-parts}
use Rattle.pipes_group.proofs.coverage.Coverage.enter.Goals as goal

pub returns : goal.returns
returns c =
    admits-parts c.args.self.now c.set.new.self _ c.args.elem c.in_ok-key.key c.in_ok-due.due
    c.end-end.result _ c.requires
    c.in_ok-key.ensures c.in_ok-due.ensures c.end-end.ensures.value c.in_ok-set.ensures.sets
    c.in_ok-set.ensures.unique c.in_ok-set.ensures.dues c.in_ok-put.ensures refl refl
