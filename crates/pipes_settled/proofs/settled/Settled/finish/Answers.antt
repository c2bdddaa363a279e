use Rattle.std.proofs.Common.{◌++◌}
use Rattle.pipes_settled.proofs.Certain.{whole-text}
use Rattle.pipes_settled.proofs.settled.Settled.finish.Goals as goal

pub returns-clause-finishes : goal.returns-clause-finishes
returns-clause-finishes c = λ elems from text s le.
    (let g = c.in_ok-advance.ensures.advances elems from text s le in
    record {
      fresh = g.fresh;
      appended = g.appended;
      stands = g.stands;
      whole = whole-text elems (text ++ g.fresh) c.advance.new.self g.stands;
    })
