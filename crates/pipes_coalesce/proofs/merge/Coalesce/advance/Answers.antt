use Rattle.pipes_coalesce.proofs.Advancing.{next-then}
use Rattle.pipes_coalesce.proofs.Moving.{moves-itself}
use Rattle.pipes_coalesce.proofs.merge.Coalesce.advance.Goals as goal

pub loop-elem-init : goal.loop-elem-init
loop-elem-init c = moves-itself c.args.self.now c.args.self.now.olds c.args.out.now.items

pub loop-elem-preserved : goal.loop-elem-preserved
loop-elem-preserved c =
    next-then c.args.self.now c.loop-elem.self c.next.new.self c.pass.new.self c.in-Some.elem
    c.args.out.now.items c.loop-elem.out.items c.pass.new.out.items
    c.loop-elem.invariant c.in-Some.ensures c.in_ok-pass.ensures.moves
