use Rattle.std.proofs.Common.{◌≡◌, ◌++◌, [], take}
use Rattle.std.specs.List.{flat_map}
use Rattle.pipes_relation.specs.Relations.{joined_row}
use Rattle.pipes_relation.proofs.join.join_row.Given as goal

abbrev pub invariant-loop-right : goal.invariant-loop-right
invariant-loop-right l = l.out.items
    ≡ l.initial.out.items ++ flat_map (joined_row [] l.condition l.left) (take l.right-index l.rows)
