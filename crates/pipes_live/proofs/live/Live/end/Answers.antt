use Rattle.std.proofs.Common.{refl}
use Rattle.pipes_live.proofs.Closing.{ends-live}
use Rattle.pipes_live.proofs.live.Live.end.Goals as goal

pub returns-clause-ends : goal.returns-clause-ends
returns-clause-ends c =
    ends-live c.args.self.now _ c.replace-state.result c.replace-state.ensures.value
    c.end.ensures.ends refl refl
