use Rattle.std.proofs.Common.{◌≡◌, take, Some}
use Rattle.pipes_rewrite.specs.Changes.{exprs_changed}
use Rattle.pipes_rewrite.specs.ColumnChange.{meant}
use Rattle.pipes_rewrite.proofs.change.change_all.Given as goal

abbrev pub invariant-loop-expr : goal.invariant-loop-expr
invariant-loop-expr l = exprs_changed (meant l.change) (take l.expr-index l.exprs)
    ≡ Some l.list.items
