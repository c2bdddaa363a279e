use Rattle.std.proofs.Common.{refl}
use Rattle.pipes_group.proofs.Moving.{extends-from}
use Rattle.pipes_group.proofs.coverage.Coverage.extend.Goals as goal

pub returns-clause-extends : goal.returns-clause-extends
returns-clause-extends c =
    extends-from c.args.self.now c.set.new.self _ c.in_ok-key.key c.in_ok-copy.copy c.args.tuple
    c.end-end.result c.args.span c.args.out.now.items c.append.new.out.items
    c.in_ok-key.ensures c.in_ok-copy.ensures c.end-end.ensures.value c.in_ok-set.ensures.sets
    c.in_ok-set.ensures.unique c.in_ok-set.ensures.dues c.in_ok-put.ensures refl
    c.in_ok-append.ensures.appended
