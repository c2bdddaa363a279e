use Rattle.std.proofs.Common.{◌≡◌, map, take}
use Rattle.pipes_relation.specs.Relations.{group_row}
use Rattle.pipes_relation.proofs.group.grouped.Given as goal

abbrev pub invariant-loop-i : goal.invariant-loop-i
invariant-loop-i l = l.out.items ≡ map (group_row l.columns l.aggs l.fn.rows.items)
    (take l.i l.keys)
