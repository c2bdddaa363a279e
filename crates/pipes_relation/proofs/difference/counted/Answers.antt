use Rattle.std.proofs.Common.{rules, arith, ◌≡◌, ◌≤◌, ◌<◌, ◌+◌, ◌^◌, ◌++◌, ◌∷◌, [], length, ap}
use Rattle.std.proofs.Common.{length-append, append_assoc, sym, ◌∙◌, List}
use Rattle.pipes_expr.specs.ExprValue.{Row}
use Rattle.pipes_relation.proofs.Counting.{counts_more, counts_empty, at_most}
use Rattle.pipes_relation.proofs.difference.counted.Goals as goal

pub overflow_add-many : goal.overflow_add-many
overflow_add-many c =
    let most = at_most c.loop-row.counts c.loop-row.yielded c.in-Some.row c.number_in-many.result
    c.loop-row.invariant.1 c.number_in-many.ensures in
    let long : length c.args.rows.items ≡ length c.loop-row.yielded + length
    c.loop-row.row-iterator.rest.items = ap (λ (l : List Row). length l)
    c.loop-row.invariant.0 ∙ length-append c.loop-row.yielded
    c.loop-row.row-iterator.rest.items in
    let few : length c.args.rows.items < 2 ^ 64 = omega arith in
    let one : c.loop-row.row-iterator.rest.items ≡ c.in-Some.row ∷ c.next.new.self.rest.items =
    search rules in
    let some = ap (λ (l : List Row). length l) one in
    omega (arith, most, long, few, some)

pub loop-row-init : goal.loop-row-init
loop-row-init c = (search rules, counts_empty c.new-counts.result c.new-counts.ensures.empty)

pub loop-row-preserved : goal.loop-row-preserved
loop-row-preserved c =
    let one : c.loop-row.row-iterator.rest.items ≡ c.in-Some.row ∷ c.next.new.self.rest.items =
    search rules in (
      c.loop-row.invariant.0 ∙ ap (λ (l : List Row). c.loop-row.yielded ++ l) one
          ∙ sym (append_assoc c.loop-row.yielded (c.in-Some.row ∷ []) c.next.new.self.rest.items),
      counts_more c.loop-row.counts c.loop-row.yielded c.in-Some.row c.number_in-many.result
          c.loop-row.invariant.1 c.number_in-many.ensures c.insert.new.self
          c.in_ok-insert.ensures.updates,
    )
