use Rattle.pipes_tuple.specs.Columns.{at_columns}
use Rattle.std.proofs.Common.{arith, ◌≡◌, ◌∙◌, ◌<◌, ◌++◌, map, ap, length, List, get_or}
use Rattle.std.specs.declared.vec.Vec.{Vec}
use Rattle.std.specs.declared.alloc.Global.{Global}
use Rattle.pipes_expr.specs.ExprValue.{Row}
use Rattle.pipes_relation.specs.Aggregate.{aggregate}
use Rattle.pipes_relation.specs.Relations.{group_row, with_key}
use Rattle.pipes_relation.proofs.Keys.{key_width, map_more}
use Rattle.pipes_relation.proofs.Tables.{group_at}
use Rattle.pipes_relation.proofs.group.grouped.Goals as goal

pub group_row-requires : goal.group_row-requires
group_row-requires c =
    let width : length c.index-keys-i.result ≡ length c.args.columns.now =
    key_width c.args.columns.now c.args.rows.items c.as_slice-keys.result.now c.loop-i.i
    c.index-keys-i.result c.requires.columns (c.as_slice-keys.ensures.keys
    ∙ c.in_ok-table.ensures.keys_are) (omega arith) c.index-keys-i.is in
    (omega arith, omega arith)

pub loop-i-preserved : goal.loop-i-preserved
loop-i-preserved c =
    let keys = c.as_slice-keys.ensures.keys in
    let within : c.loop-i.i < length c.in_ok-table.table.keys.keys =
    omega (arith, ap (λ (ks : List Row). length ks) keys) in
    let rows : c.index-groups-i.result.items ≡ with_key c.args.columns.now c.args.rows.items
    c.index-keys-i.result =
    group_at (at_columns c.args.columns.now) c.args.rows.items c.in_ok-table.table.keys.keys
    c.in_ok-table.table.groups.items c.loop-i.i c.index-keys-i.result c.index-groups-i.result
    c.in_ok-table.ensures within (c.index-keys-i.is ∙ ap
    (λ (ks : List Row). get_or ks c.loop-i.i c.index-keys-i.result) keys) (c.index-groups-i.is
    ∙ ap (λ (gs : List (Vec Row Global)). get_or gs c.loop-i.i c.index-groups-i.result)
    c.as_slice-groups.ensures.value) in
    map_more (group_row c.args.columns.now c.args.aggs.now c.args.rows.items)
    c.as_slice-keys.result.now c.loop-i.i c.index-keys-i.result c.loop-i.out.items
    c.push.new.self.items c.in_ok-group_row.field-0 (omega arith) c.index-keys-i.is
    c.loop-i.invariant
    (c.in_ok-group_row.ensures ∙ ap (λ (group : List Row). c.index-keys-i.result
    ++ map (aggregate group) c.args.aggs.now) (c.as_slice.ensures.value ∙ rows))
    c.in_ok-push.ensures.items
