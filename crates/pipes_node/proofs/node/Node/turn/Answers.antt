use Rattle.pipes_node.proofs.Stood.{told-holds, refused-holds}
use Rattle.pipes_node.proofs.node.Node.turn.Goals as goal

pub returns-in-Ok-clause-holds : goal.returns-in-Ok-clause-holds
returns-in-Ok-clause-holds g c = λ h.
    told-holds c.put_all-put.new.self c.in-Ok.taken c.saturating_add-self.result
    (c.put_all-put.ensures.stands (c.in-Ok.ensures.stands (h.stands c.if-self.false)))

pub returns-in-Err-clause-holds : goal.returns-in-Err-clause-holds
returns-in-Err-clause-holds g c = λ h.
    refused-holds c.take_all.new.self (c.in-Err.ensures.stood (h.stands c.if-self.false))
