use Rattle.pipes_node.proofs.Emitting.{emits-more}
use Rattle.pipes_node.proofs.NodeSteps.{on_ok-map}
use Rattle.pipes_node.proofs.node.Node.work.Goals as goal

pub returns-in-Some-clause-emits : goal.returns-in-Some-clause-emits
returns-in-Some-clause-emits c =
    on_ok-map c.take.result _ _
    (λ takes passed out e can.
    let may = rw c.in-Some.is at can in
    emits-more _ c.take.new.self c.args.port c.args.message c.args.self.now.pending.items
    c.args.self.now.fresh.items c.take.new.out.items takes passed out (rw c.in-Some.is at e)
    (record { follows = may.0; fits = may.1 }))
    c.take.ensures.takes
