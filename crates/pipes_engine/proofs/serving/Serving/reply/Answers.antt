use Rattle.std.proofs.Common.{Err, refl, subst}
use Rattle.pipes_rules.specs.declared.derivation.DeriveRefusal.{DeriveRefusal}
use Rattle.pipes_rules.specs.Deriving.{IsDerived}
use Rattle.pipes_live.proofs.Outcomes.{on-ok}
use Rattle.pipes_engine.proofs.Replying.{failed-replies}
use Rattle.pipes_engine.proofs.serving.Serving.reply.Goals as goal

pub returns-in-Err-NotDerived-clause-replies : goal.returns-in-Err-NotDerived-clause-replies
returns-in-Err-NotDerived-clause-replies g c =
    on-ok c.refuse.result (λ f. failed-replies c.args.self.now _ c.args.derivation.now _ f
    c.in-Err-NotDerived.step refl
    (subst (λ (r : DeriveRefusal). IsDerived (Err r) c.args.self.now.schemas
    c.args.self.now.plan c.args.derivation.now.steps c.args.derivation.now.plan 1)
    c.in-Err-NotDerived.field-0-is c.in-Err-NotDerived.ensures.derived)) c.refuse.ensures.refuses
