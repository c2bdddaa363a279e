use Rattle.pipes_sweep.proofs.area.Area.probe.Given as goal

abbrev pub ghosts-probe_with : goal.ghosts-probe_with
ghosts-probe_with a = record { name = a.blank.name; parts = a.blank.parts }
