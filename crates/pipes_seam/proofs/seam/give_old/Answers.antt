use Rattle.pipes_seam.proofs.Giving.{gives_old-more}
use Rattle.pipes_seam.proofs.seam.give_old.Goals as goal

pub loop-message-preserved : goal.loop-message-preserved
loop-message-preserved c = record {
  gives = gives_old-more c.args.merge.now c.loop-message.merge c.old.new.self
      c.loop-message.yielded c.in-Some.message c.args.out.now.items c.loop-message.out.items
      c.old.new.out.items c.loop-message.invariant.gives c.in_ok-old.ensures.takes
      c.in_ok-old.ensures.split;
}
