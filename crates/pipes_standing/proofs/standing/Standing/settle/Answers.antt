use Rattle.pipes_standing.proofs.Calming.{settles}
use Rattle.pipes_standing.proofs.standing.Standing.settle.Goals as goal

pub returns-clause-settles : goal.returns-clause-settles
returns-clause-settles g c =
    settles c.args.self.now _ c.in_ok-work_off.ensures.works.more c.work_off.new.out.items
    c.in_ok-work_off.ensures.works.appended c.in_ok-work_off.ensures.works.stands
    c.answers.ensures c.keeps_up.ensures.prompt c.in_ok-work_off.ensures.still
    c.in_ok-write.ensures.taken c.in_ok-write.ensures.made c.in_ok-write.ensures.written
