use Rattle.pipes_supply.proofs.Supplied.{so_far, at_end, all_ended}
use Rattle.pipes_supply.proofs.feeders_supply.Goals as goal

pub returns-clause-so_far : goal.returns-clause-so_far
returns-clause-so_far c = so_far

pub returns-clause-at_end : goal.returns-clause-at_end
returns-clause-at_end c = at_end

pub returns-clause-all : goal.returns-clause-all
returns-clause-all c = all_ended
