use Rattle.pipes_pair.proofs.join.Join.take_with.Goals as goal

pub returns-clause-same : goal.returns-clause-same
returns-clause-same g c = c.take_in_steps.ensures.same

pub returns-clause-takes : goal.returns-clause-takes
returns-clause-takes g c = c.take_in_steps.ensures.takes

pub returns-clause-memory : goal.returns-clause-memory
returns-clause-memory g c = c.take_in_steps.ensures.memory

pub returns-clause-fails : goal.returns-clause-fails
returns-clause-fails g c = c.take_in_steps.ensures.fails

pub returns-clause-stays_failed : goal.returns-clause-stays_failed
returns-clause-stays_failed g c = c.take_in_steps.ensures.stays_failed

pub returns-clause-goes_on : goal.returns-clause-goes_on
returns-clause-goes_on g c = c.take_in_steps.ensures.goes_on
