use Rattle.pipes_seam.proofs.Telling.{kept-more}
use Rattle.pipes_seam.proofs.seam.keep_elements.Goals as goal

pub loop-message-preserved : goal.loop-message-preserved
loop-message-preserved c =
    kept-more c.args.out.now.items c.loop-message.out.items c.keep.new.out.items
    c.loop-message.yielded c.in-Some.message c.loop-message.invariant c.in_ok-keep.ensures
