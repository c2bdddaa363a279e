use Rattle.std.proofs.Common.{subst}
use Rattle.pipes_reader.specs.Reading.{Gives}
use Rattle.pipes_grammar.proofs.WholePlans.{plan_prefix}
use Rattle.pipes_grammar.proofs.plan.read_plan.Goals as goal

pub returns-clause-only : goal.returns-clause-only
returns-clause-only c p rest h =
    subst (λ r. Gives (λ x. (x.0, x.1.now)) c.parse_plan.result r)
    (plan_prefix c.args.names.now p c.args.tokens.now rest h) c.parse_plan.ensures
