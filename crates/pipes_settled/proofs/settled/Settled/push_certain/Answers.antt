use Rattle.std.proofs.Common.{refl}
use Rattle.pipes_settled.proofs.Stepping.{gives-stands}
use Rattle.pipes_settled.proofs.settled.Settled.push_certain.Goals as goal

pub returns-clause-advances : goal.returns-clause-advances
returns-clause-advances c = λ elems from text s le.
    gives-stands elems c.args.h text c.args.out.now.items c.give.new.out.items c.settle.new.self _
    s.given s.lines
    (c.in_ok-settle.ensures.settles elems from s.given
    (record { intervals = s.intervals; pending = s.pending; pieces = s.pieces }) le)
    refl c.in_ok-give.ensures.gives c.in_ok-give.ensures.waits refl
