use Rattle.std.proofs.Common.{subst}
use Rattle.pipes_reader.specs.Reading.{Gives}
use Rattle.pipes_grammar.proofs.EntryReaders.{exprs_prefix}
use Rattle.pipes_grammar.proofs.list.read_exprs.Goals as goal

pub returns-clause-only : goal.returns-clause-only
returns-clause-only c es rest h = subst (λ r. Gives (λ x. (x.0, x.1.now)) c.parse_exprs.result r)
    (exprs_prefix es c.args.tokens.now rest h) c.parse_exprs.ensures
