use Rattle.std.proofs.Common.{[], ◌∷◌}
use Rattle.pipes_written.proofs.Writes.{made-then}
use Rattle.pipes_written.proofs.output.Output.push_all.Goals as goal

pub loop-message-preserved : goal.loop-message-preserved
loop-message-preserved c = record {
  made = made-then c.args.self.now c.loop-message.self c.push.new.self c.loop-message.yielded
      (c.in-Some.message ∷ []) c.loop-message.invariant.made c.in_ok-push.ensures.made;
}
