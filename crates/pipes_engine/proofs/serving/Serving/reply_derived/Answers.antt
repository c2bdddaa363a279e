use Rattle.std.proofs.Common.{Option, subst}
use Rattle.pipes_output.specs.declared.entry.RefusedWhy.{RefusedWhy}
use Rattle.pipes_replies.specs.Keeping.{Beside}
use Rattle.pipes_live.proofs.Outcomes.{on-ok}
use Rattle.pipes_engine.proofs.Replying.{beside-replies}
use Rattle.pipes_engine.proofs.serving.Serving.reply_derived.Goals as goal

pub returns-in-Some-clause-replies : goal.returns-in-Some-clause-replies
returns-in-Some-clause-replies g c =
    on-ok c.refuse.result (λ f. beside-replies c.args.self.now _ c.args.derivation.now
    c.in-Some.why f c.requires.derives
    (subst (λ (o : Option RefusedWhy). Beside c.args.self.now.replies o) c.in-Some.is
    c.beside.ensures)) c.refuse.ensures.refuses
