use Rattle.std.proofs.Common.{◌≡◌, take}
use Rattle.std.specs.List.{flat_map}
use Rattle.pipes_relation.specs.Relations.{joined_row}
use Rattle.pipes_relation.proofs.join.joined.Given as goal

abbrev pub invariant-loop-row : goal.invariant-loop-row
invariant-loop-row l = l.out.items
    ≡ flat_map (λ x. flat_map (joined_row l.pairs l.condition x) l.fn.right.items)
    (take l.row-index l.left)
