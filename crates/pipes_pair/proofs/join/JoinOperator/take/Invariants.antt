use Rattle.pipes_pair.proofs.join.JoinOperator.take.Given as goal

abbrev pub ghosts-take_with : goal.ghosts-take_with
ghosts-take_with a = record { name = a.blank.name; parts = a.blank.parts }
