use Rattle.std.proofs.Common.{refl}
use Rattle.pipes_moving.proofs.Settling.{settles-after, settles-same}
use Rattle.pipes_moving.proofs.moving.Moving.settle.Goals as goal

pub returns-clause-settles : goal.returns-clause-settles
returns-clause-settles g c =
    let w = c.in_ok-work_both_off.ensures.works in
    settles-same c.args.self.now c.write_tops.new.self _
    (settles-after c.args.self.now c.work_both_off.new.self c.write_tops.new.self
    (record {
      old_works = w.old_works;
      fresh_works = w.fresh_works;
      old_still = w.old_still;
      fresh_still = w.fresh_still;
      seam = w.seam;
      output = w.output;
    }) c.in_ok-write_tops.ensures.settles)
    (record { old_works = refl; fresh_works = refl; olds = refl; news = refl; seam = refl }) refl
