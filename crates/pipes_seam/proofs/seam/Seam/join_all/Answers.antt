use Rattle.std.proofs.Common.{refl}
use Rattle.pipes_seam.proofs.Joining.{joined}
use Rattle.pipes_seam.proofs.seam.Seam.join_all.Goals as goal

pub returns-clause-joins : goal.returns-clause-joins
returns-clause-joins c =
    joined c.args.self.now _ c.give_old.new.merge c.args.olds.now.items c.args.fresh.now.items
    c.new-sent.result.items c.give_old.new.out.items c.give_fresh.new.out.items
    c.args.out.now.items c.keep_elements.new.out.items c.push.new.self.items
    c.level-level.result c.in_ok-give_old.ensures.gives c.new-sent.ensures.items
    c.in_ok-give_fresh.ensures.gives refl c.in_ok-keep_elements.ensures c.level-level.ensures
    c.in_ok-push.ensures.items
