use Rattle.pipes_rule_sources.proofs.LeafReads.{leaf_told, leaves_keep}
use Rattle.pipes_rule_sources.proofs.leaves.derivation_keeps_leaves.Goals as goal

pub returns-clause-leaf : goal.returns-clause-leaf
returns-clause-leaf c = leaf_told

pub returns-clause-derivation : goal.returns-clause-derivation
returns-clause-derivation c = leaves_keep
