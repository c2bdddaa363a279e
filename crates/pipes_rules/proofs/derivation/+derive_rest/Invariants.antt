use Rattle.std.proofs.Common.{length}
use Rattle.pipes_rules.proofs.derivation.+derive_rest.Given as goal

abbrev pub decreases-derive_rest : goal.decreases-derive_rest
decreases-derive_rest l = length l.steps.now
