use Rattle.std.proofs.Common.{rules, arith, ◌≡◌, ◌∙◌, ap, sym, ◌++◌, ◌∷◌, [], List}
use Rattle.pipes_expr.specs.ExprValue.{Row}
use Rattle.pipes_relation.specs.Relations.{minus}
use Rattle.pipes_relation.proofs.Counting.{counts_less, counts_none, dropped, kept, minus-none}
use Rattle.pipes_relation.proofs.difference.minus.Goals as goal

pub loop-row-init : goal.loop-row-init
loop-row-init c = (
  c.new-out.ensures.items ∙ sym (minus-none c.args.right.items),
  c.in_ok-counts.ensures,
)

pub loop-row-preserved-in_ok-insert : goal.loop-row-preserved-in_ok-insert
loop-row-preserved-in_ok-insert c = (
  c.loop-row.invariant.0 ∙ sym (dropped c.loop-row.counts c.args.right.items c.loop-row.yielded
      c.in-Some.row c.number_in-many.result c.loop-row.invariant.1 c.number_in-many.ensures
      (omega arith)),
  counts_less c.loop-row.counts c.args.right.items c.loop-row.yielded c.in-Some.row
      c.number_in-many.result c.loop-row.invariant.1 c.number_in-many.ensures c.insert.new.self
      (omega arith) c.in_ok-insert.ensures.updates,
)

pub loop-row-preserved : goal.loop-row-preserved
loop-row-preserved c = (
  c.in_ok-push.ensures.items ∙ ap (λ (l : List Row). l ++ c.in-Some.row ∷ [])
      c.loop-row.invariant.0 ∙ sym (kept c.loop-row.counts c.args.right.items c.loop-row.yielded
      c.in-Some.row c.number_in-many.result c.loop-row.invariant.1 c.number_in-many.ensures
      (omega arith)),
  counts_none c.loop-row.counts c.args.right.items c.loop-row.yielded c.in-Some.row
      c.number_in-many.result c.loop-row.invariant.1 c.number_in-many.ensures (omega arith),
)
