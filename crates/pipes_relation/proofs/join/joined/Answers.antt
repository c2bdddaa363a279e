use Rattle.std.proofs.Common.{arith, ◌+◌, ◌≤◌, ◌∙◌, sym, subst, length}
use Rattle.std.specs.List.{All, flat_map}
use Rattle.pipes_expr.specs.ExprValue.{Row}
use Rattle.pipes_relation.specs.Relations.{joined_row}
use Rattle.pipes_relation.specs.Tables.{values_in}
use Rattle.pipes_relation.proofs.Joins.{group_room, row_joined, joined_more, joined_all}
use Rattle.pipes_relation.proofs.join.joined.Goals as goal

pub join_row-requires : goal.join_row-requires
join_row-requires c =
    group_room (λ r. length c.row-item.result + length r ≤ 32) (values_in c.as_slice.result.now)
    c.args.right.items c.in_ok-key.key c.rows.result.now
    (c.rows.ensures (values_in c.as_slice.result.now) c.args.right.items c.in_ok-table.ensures)
    (subst (λ (l : Row). All (λ (r : Row). length l + length r ≤ 32) c.args.right.items)
    (sym c.row-item.is) (c.requires.room c.loop-row.row-index c.row-item.result (omega arith)))

pub loop-row-preserved : goal.loop-row-preserved
loop-row-preserved c =
    joined_more
    (λ x. flat_map (joined_row c.args.pairs.now c.args.condition.now x) c.args.right.items)
    c.args.left.now c.loop-row.row-index c.row-item.result c.loop-row.out.items
    c.join_row.new.out.items (omega arith) c.row-item.is c.loop-row.invariant
    (row_joined c.args.pairs.now c.args.condition.now c.row-item.result c.args.right.items
    c.as_slice-in-loop-row.result.now c.as_slice.result.now c.in_ok-key.key c.rows.result.now
    c.loop-row.out.items c.join_row.new.out.items
    (c.as_slice-in-loop-row.ensures.value ∙ c.in_ok-lefts.ensures)
    (c.as_slice.ensures.value ∙ c.in_ok-rights.ensures) c.in_ok-key.ensures
    (c.rows.ensures (values_in c.as_slice.result.now) c.args.right.items c.in_ok-table.ensures)
    c.in_ok-join_row.ensures)

pub returns : goal.returns
returns c =
    joined_all c.args.pairs.now c.args.condition.now c.args.left.now c.args.right.items
    c.loop-row.row-index c.loop-row.out.items (omega arith) c.loop-row.invariant
