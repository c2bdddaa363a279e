use Rattle.std.proofs.Common.{rules, refl, arith, ◌≤◌, ◌<◌}
use Rattle.pipes_coalesce.proofs.Moving.{on-ok}
use Rattle.pipes_coalesce.proofs.Passing.{passes-alone, passes-waits}
use Rattle.pipes_coalesce.proofs.merge.Coalesce.pass_alone.Goals as goal

pub returns-then-self-beat_now-clause-moves : goal.returns-then-self-beat_now-clause-moves
returns-then-self-beat_now-clause-moves c =
    on-ok c.append.result
    (λ is. passes-alone c.args.self.now c.args.self.now c.args.elem c.args.out.now.items
    c.append.new.out.items (search rules) refl refl is c.requires.can
    (search rules) c.requires.alone)
    c.append.ensures

pub returns-else-self-beat_now-clause-moves : goal.returns-else-self-beat_now-clause-moves
returns-else-self-beat_now-clause-moves c =
    on-ok c.put.result
    (λ put. passes-waits c.args.self.now _ c.args.elem c.args.out.now.items c.args.out.now.items
    (search rules) put (search rules) refl refl refl refl c.requires.can
    (search rules) c.requires.end c.requires.alone)
    c.put.ensures
