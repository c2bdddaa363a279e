use Rattle.std.proofs.Common.{◌≡◌, false, refl}
use Rattle.pipes_works.proofs.BySource.{works-off, off-some}
use Rattle.pipes_works.proofs.works.Works.work_off.Goals as goal

pub returns-clause-whole : goal.returns-clause-whole
returns-clause-whole g c =
    let going : c.args.self.now.failed ≡ false = cc in
    record {
      sound = c.work_off.ensures.sound;
      some_workers = c.requires.some_workers;
      most_workers = c.requires.most_workers;
      stands = λ _. off-some c.args.self.now _ c.args.out.now.items c.work_off.new.out.items
          c.work_off.ensures.works refl (c.requires.stands going);
    }

pub returns-clause-works : goal.returns-clause-works
returns-clause-works g c =
    works-off c.args.self.now _ c.args.out.now.items c.work_off.new.out.items
    c.work_off.ensures.works refl
