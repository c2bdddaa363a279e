use Rattle.pipes_rule_sources.proofs.StepReads.{step_keeps, steps_keep}
use Rattle.pipes_rule_sources.proofs.sources.derivation_keeps_sources.Goals as goal

pub returns-clause-step : goal.returns-clause-step
returns-clause-step c = step_keeps

pub returns-clause-derivation : goal.returns-clause-derivation
returns-clause-derivation c = steps_keep
