use Rattle.pipes_moving.proofs.Coalescing.{moving-coalesced}
use Rattle.pipes_moving.proofs.moving.Moving.coalesces.Goals as goal

pub returns : goal.returns
returns c = λ schemas before after rows base below from entries s.
    moving-coalesced schemas before after rows base below from entries c.args.self.now
    c.held.ensures.merged s
