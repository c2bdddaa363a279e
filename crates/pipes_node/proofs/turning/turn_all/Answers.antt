use denote.Param.Send.{sendable}
use Rattle.pipes_node.proofs.Sent.{send_node}
use Rattle.pipes_node.proofs.turning.turn_all.Goals as goal

pub for_each_mut-requires-send-T : goal.for_each_mut-requires-send-T
for_each_mut-requires-send-T g c κs within = search (sendable, send_node)
