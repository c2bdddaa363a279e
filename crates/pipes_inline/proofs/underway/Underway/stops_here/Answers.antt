use Rattle.std.proofs.Common.{◌++◌}
use Rattle.pipes_semantics.specs.Answer.{schemas_of}
use Rattle.pipes_inline.proofs.Turning.{cut-here}
use Rattle.pipes_inline.proofs.underway.Underway.stops_here.Goals as goal

pub returns : goal.returns
returns c = λ start lefts faults now g. cut-here start lefts faults now c.args.self.now g
    (c.answers.ensures (schemas_of start.query) start.query.plan g.sent
    (g.done ++ c.args.self.now.top.items) g.works)
