use Rattle.std.proofs.Common.{ap}
use Rattle.pipes_pair.specs.Joins.{matching_task}
use Rattle.pipes_pair.proofs.join.JoinOperator.take.Goals as goal

pub returns-clause-same_task : goal.returns-clause-same_task
returns-clause-same_task c = ap matching_task c.take_with.ensures.same

pub returns-clause-takes : goal.returns-clause-takes
returns-clause-takes c = c.take_with.ensures.takes

pub returns-clause-memory : goal.returns-clause-memory
returns-clause-memory c = c.take_with.ensures.memory

pub returns-clause-fails : goal.returns-clause-fails
returns-clause-fails c = c.take_with.ensures.fails

pub returns-clause-stays_failed : goal.returns-clause-stays_failed
returns-clause-stays_failed c = c.take_with.ensures.stays_failed

pub returns-clause-goes_on : goal.returns-clause-goes_on
returns-clause-goes_on c = c.take_with.ensures.goes_on
