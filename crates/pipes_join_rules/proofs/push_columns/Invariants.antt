use Rattle.std.proofs.Common.{◌≡◌, ◌++◌}
use Rattle.pipes_rewrite.specs.JoinForms.{columns_from}
use Rattle.pipes_join_rules.proofs.push_columns.Given as goal

abbrev pub invariant-loop-i : goal.invariant-loop-i
invariant-loop-i l = l.list.items ≡ l.initial.list.items ++ columns_from l.start l.i
