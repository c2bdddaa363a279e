use Rattle.std.proofs.Common.{arith}
use Rattle.pipes_minus.proofs.Taking.{sees_left, sees_right}
use Rattle.pipes_minus.proofs.minus.Minus.watch.Goals as goal

pub returns-then-port-eq0-clause-sees : goal.returns-then-port-eq0-clause-sees
returns-then-port-eq0-clause-sees c =
    sees_left c.args.port c.args.message.now _ _ _ (omega arith) c.step.ensures.follows

pub returns-else-port-eq0-clause-sees : goal.returns-else-port-eq0-clause-sees
returns-else-port-eq0-clause-sees c =
    sees_right c.args.port c.args.message.now _ _ _ (omega arith)
    c.step-else-port-eq0.ensures.follows
