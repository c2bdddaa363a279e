-- A node may go to another thread: its parts may. A type that has an expression in it owes it here,
-- since an expression holds itself.
use denote.Param.Send.{IsSend, sendable}
use Rattle.std.proofs.Crossing.{crosses}
use Rattle.sqlite_items.proofs.boxed.Boxed.TheSendSync as boxed_sent
use Rattle.rtrb.proofs.producer.Producer.TheSendSync as producer_sent
use Rattle.pipes_link.proofs.outlet.Outlet.TheSendSync as outlet_sent
use Rattle.pipes_tuple.proofs.value.Value.TheSendSync as value_sent
use Rattle.pipes_tuple.proofs.schema.Schema.TheSendSync as schema_sent
use Rattle.pipes_tuple.proofs.bounded_list.BoundedList.TheSendSync as list_sent
use Rattle.pipes_stream.proofs.message.Message.TheSendSync as message_sent
use Rattle.pipes_stream.proofs.watch.Watch.TheSendSync as watch_sent
use Rattle.pipes_sweep.proofs.hold.Hold.TheSendSync as hold_sent
use Rattle.pipes_expr.proofs.op.Op.TheSendSync as op_sent
use Rattle.pipes_expr.proofs.expr.Expr.TheLaws.TheKnot as knot
use Rattle.pipes_expr.specs.contracts.expr.Expr as expr
use Rattle.pipes_flat.specs.contracts.condition.Condition as condition
use Rattle.pipes_flat.specs.contracts.filter.Filter as filter
use Rattle.pipes_flat.specs.contracts.projection.Projection as projection
use Rattle.pipes_flat.specs.contracts.map.Map as mapped
use Rattle.pipes_flat.proofs.union.Union.TheSendSync as union_sent
use Rattle.pipes_pair.proofs.side.Side.TheSendSync as side_sent
use Rattle.pipes_pair.specs.contracts.join.Matching as matching
use Rattle.pipes_pair.specs.contracts.join.Join as join
use Rattle.pipes_group.proofs.distinct.Distinct.TheSendSync as distinct_sent
use Rattle.pipes_group.proofs.group.Group.TheSendSync as group_sent
use Rattle.pipes_minus.proofs.minus.Minus.TheSendSync as minus_sent
use Rattle.pipes_node.proofs.port.Port.TheSendSync as port_sent
use Rattle.pipes_node.specs.contracts.operator.PlanOperator as operator
use Rattle.pipes_node.specs.contracts.node.Node as node

send_expr : IsSend expr.the_field.row
send_expr =
    knot.send-Expr (search sendable) value_sent.the_field_send op_sent.the_field_send
    boxed_sent.the_send

send_condition : IsSend condition.the_field.row
send_condition = search (sendable, send_expr, schema_sent.the_send) depth 20

send_filter : IsSend filter.the_field.row
send_filter = search (sendable, send_condition, watch_sent.the_send) depth 20

send_projection : IsSend projection.the_field.row
send_projection =
    search (sendable, crosses, send_expr, list_sent.the_send, schema_sent.the_send) depth 20

send_map : IsSend mapped.the_field.row
send_map = search (sendable, send_projection, watch_sent.the_send) depth 20

send_matching : IsSend matching.the_field.row
send_matching =
    search (sendable, crosses, send_expr, list_sent.the_send, schema_sent.the_send) depth 20

send_join : IsSend join.the_field.row
send_join =
    search (sendable, crosses, send_matching, side_sent.the_field_send, hold_sent.the_send) depth 20

send_operator : IsSend operator.the_field.row
send_operator =
    search (
      sendable,
      send_filter,
      send_map,
      send_join,
      union_sent.the_field_send,
      distinct_sent.the_field_send,
      group_sent.the_field_send,
      minus_sent.the_field_send,
    ) depth 20

pub send_node : IsSend node.the_field.row
send_node =
    search (
      sendable,
      crosses,
      outlet_sent.the_field_send,
      producer_sent.the_field_send,
      send_operator,
      port_sent.the_field_send,
      message_sent.the_field_send,
    ) depth 20
