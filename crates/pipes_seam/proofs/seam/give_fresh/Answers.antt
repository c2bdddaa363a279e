use Rattle.pipes_seam.proofs.Giving.{gives_fresh-more}
use Rattle.pipes_seam.proofs.seam.give_fresh.Goals as goal

pub loop-message-preserved : goal.loop-message-preserved
loop-message-preserved c = record {
  gives = gives_fresh-more c.args.merge.now c.loop-message.merge c.fresh.new.self
      c.loop-message.yielded c.in-Some.message c.args.out.now.items c.loop-message.out.items
      c.fresh.new.out.items c.loop-message.invariant.gives c.in_ok-fresh.ensures.takes
      c.in_ok-fresh.ensures.split;
}
