use Rattle.std.proofs.Common.{◌+◌, ◌-◌, arith, refl}
use Rattle.pipes_stream.specs.declared.message.Message.TheVariants as message
use Rattle.pipes_timeline.proofs.SentCopies.{sent-one, grown}
use Rattle.pipes_timeline.proofs.timeline.send_many.Goals as goal

pub loop-copy-preserved : goal.loop-copy-preserved
loop-copy-preserved c = record {
  sent = sent-one (c.loop-copy._copy - 1) (c.loop-copy._copy + 1 - 1) c.args.elem
      c.in_ok-copy.field-0 c.args.out.now.items c.loop-copy.out.items c.append.new.out.items
      (omega arith) c.in_ok-copy.ensures c.loop-copy.invariant.sent
      c.in_ok-append.ensures.appended;
  same = refl;
  grows = grown c.args.out.now.items c.loop-copy.out.items c.append.new.out.items
      (message.Elem c.in_ok-copy.field-0) c.loop-copy.invariant.grows
      c.in_ok-append.ensures.appended;
}
