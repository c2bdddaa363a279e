use Rattle.std.proofs.Common.{refl}
use Rattle.pipes_flat.specs.UnionLaw.{union_sends_from}
use Rattle.pipes_flat.proofs.union.Union.send.Goals as goal

pub returns-clause-sends : goal.returns-clause-sends
returns-clause-sends c =
    union_sends_from c.args.self.now _ c.args.known c.least-now.result c.has_ended-ended.result _ _
    refl refl refl refl c.least-now.ensures c.has_ended-ended.ensures c.send_due.ensures.order
    c.in_ok-send_due.ensures.kept c.in_ok-send_due.ensures.sent
