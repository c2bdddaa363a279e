use Rattle.std.proofs.Common.{subst}
use Rattle.pipes_reader.specs.Reading.{Gives}
use Rattle.pipes_grammar.proofs.WholeExprs.{expr_prefix}
use Rattle.pipes_grammar.proofs.expr.read_expr.Goals as goal

pub returns-clause-only : goal.returns-clause-only
returns-clause-only c e rest h = subst (λ r. Gives (λ x. (x.0, x.1.now)) c.parse_expr.result r)
    (expr_prefix e c.args.tokens.now rest h) c.parse_expr.ensures
