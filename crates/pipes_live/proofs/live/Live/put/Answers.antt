use Rattle.std.proofs.Common.{refl}
use Rattle.pipes_live.proofs.Watching.{takes-in}
use Rattle.pipes_live.proofs.live.Live.put.Goals as goal

pub returns-clause-takes : goal.returns-clause-takes
returns-clause-takes g c =
    let noted = c.note.ensures.noted in
    takes-in c.args.self.now c.note.new.self _ c.args.source c.args.message c.requires.in_range
    c.requires.may
    (record { state = noted.state; sources = noted.sources; split = noted.split })
    c.in_ok-take.ensures.takes refl refl
