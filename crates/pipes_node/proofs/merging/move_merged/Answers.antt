use Rattle.std.proofs.Common.{◌≡◌, [], ◌∷◌, List}
use Rattle.pipes_plan.proofs.NodeOutcome.{empty-append}
use Rattle.pipes_stream.specs.declared.message.Message.{Message}
use Rattle.pipes_node.proofs.Merges.{merged-next}
use Rattle.pipes_node.proofs.merging.move_merged.Goals as goal

some-none : (m : Message) → ◌≡◌ {A = List Message} (m ∷ []) [] → ⊥
some-none m h = cc

pub loop-message-preserved : goal.loop-message-preserved
loop-message-preserved c = record {
  merged = merged-next c.args.pending.now.items c.args.level.now c.loop-message.yielded
      c.in-Some.message
      c.loop-message.pending.items c.append_merged.new.pending.items c.loop-message.level
      c.append_merged.new.level
      c.loop-message.invariant.merged c.in_ok-append_merged.ensures.merged;
  none = λ h. absurd (some-none c.in-Some.message
      (empty-append c.loop-message.yielded (c.in-Some.message ∷ []) h).1);
}
