use Rattle.std.proofs.Common.{◌≡◌, map, take}
use Rattle.pipes_relation.specs.Relations.{values_of}
use Rattle.pipes_relation.proofs.rows.mapped.Given as goal

abbrev pub invariant-loop-row : goal.invariant-loop-row
invariant-loop-row l = l.out.items ≡ map (values_of l.exprs) (take l.row-index l.rows)
