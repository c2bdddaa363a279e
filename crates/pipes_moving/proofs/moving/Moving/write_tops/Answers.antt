use Rattle.std.proofs.Common.{refl}
use Rattle.pipes_moving.proofs.Settling.{settles}
use Rattle.pipes_moving.proofs.moving.Moving.write_tops.Goals as goal

pub returns-clause-settles : goal.returns-clause-settles
returns-clause-settles c =
    settles c.args.self.now _ c.new-sent.result.items c.join.new.out.items
    c.in_ok-join.ensures.joins c.new-sent.ensures.items c.held.ensures.merged
    c.answers.ensures c.keeps_up.ensures.prompt c.«answers-2».ensures c.«keeps_up-2».ensures.prompt
    c.requires.old_still c.requires.fresh_still refl refl c.in_ok-join.ensures.olds
    c.in_ok-join.ensures.fresh c.in_ok-write.ensures.made c.in_ok-write.ensures.written
