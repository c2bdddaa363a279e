use Rattle.std.proofs.Common.{◌≡◌, take}
use Rattle.pipes_relation.specs.Relations.{values_of}
use Rattle.pipes_relation.proofs.rows.values.Given as goal

abbrev pub invariant-loop-expr : goal.invariant-loop-expr
invariant-loop-expr l = l.list.items ≡ values_of (take l.expr-index l.exprs) l.row
