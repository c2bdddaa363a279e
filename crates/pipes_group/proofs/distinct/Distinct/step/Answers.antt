use Rattle.std.proofs.Common.{refl}
use Rattle.pipes_group.specs.DistinctLaw.{distinct_step}
use Rattle.pipes_group.proofs.distinct.Distinct.step.Goals as goal

pub returns-clause-takes : goal.returns-clause-takes
returns-clause-takes c =
    distinct_step c.args.self.now _ c.catch_up.new.self c.args.message c.in_ok-last.last
    c.beat_now-now.result c.args.out.now.items c.catch_up.new.out.items c.append.new.out.items
    c.step.ensures.follows c.beat_now-now.ensures c.in_ok-catch_up.ensures.moves
    c.in_ok-catch_up.ensures.cleared c.in_ok-last.ensures c.in_ok-append.ensures.appended refl
    refl
