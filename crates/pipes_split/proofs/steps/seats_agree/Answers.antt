use Rattle.pipes_split.proofs.Keeping.{ends-below, splits-agree, words-hold-ends}
use Rattle.pipes_split.proofs.Keeping.{halts-were-asked}
use Rattle.pipes_split.proofs.steps.seats_agree.Goals as goal

pub returns-clause-below : goal.returns-clause-below
returns-clause-below c = ends-below

pub returns-clause-same : goal.returns-clause-same
returns-clause-same c = splits-agree

pub returns-clause-words : goal.returns-clause-words
returns-clause-words c = words-hold-ends

pub returns-clause-halts : goal.returns-clause-halts
returns-clause-halts c = halts-were-asked
