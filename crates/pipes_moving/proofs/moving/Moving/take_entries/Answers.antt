use Rattle.std.proofs.Common.{refl}
use Rattle.pipes_moving.proofs.Settling.{moving-same}
use Rattle.pipes_moving.proofs.moving.Moving.take_entries.Goals as goal

pub returns-clause-moves : goal.returns-clause-moves
returns-clause-moves c = λ schemas before after rows base below from entries s.
    moving-same schemas before after rows base below from entries c.args.self.now _
    (record { old_works = refl; fresh_works = refl; olds = refl; news = refl; seam = refl })
    c.take_entries.ensures.beat s
