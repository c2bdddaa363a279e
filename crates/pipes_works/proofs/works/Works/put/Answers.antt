use Rattle.std.proofs.Common.{◌≡◌, ◌<◌, ◌≤◌, ℕ, length, false, arith}
use Rattle.pipes_works.specs.declared.works.Works.{Works}
use Rattle.pipes_works.proofs.BySource.{can-noted, put-puts, put-some, count-kept, noted-count}
use Rattle.pipes_works.proofs.works.Works.put.Goals as goal

pub give-requires-clause-in_range : goal.give-requires-clause-in_range
give-requires-clause-in_range g c = λ κs within.
    omega (
      arith,
      c.requires.in_range,
      noted-count c.args.self.now c.note.new.self c.note.new.self c.args.source c.args.message
          c.requires.in_range c.requires.may c.note.ensures.noted.plan_box
          c.note.ensures.noted.inputs,
    )

pub give-requires-clause-can : goal.give-requires-clause-can
give-requires-clause-can g c = λ κs within.
    let going : c.args.self.now.failed ≡ false = cc in
    can-noted c.args.self.now c.note.new.self c.note.new.self c.args.source c.args.message
    c.requires.in_range c.requires.may c.note.ensures.noted.plan_box c.note.ensures.noted.inputs
    c.requires.whole.sound (c.requires.whole.stands going)

pub returns-clause-whole : goal.returns-clause-whole
returns-clause-whole g c =
    let going : c.args.self.now.failed ≡ false = cc in
    record {
      sound = c.give.ensures.sound;
      some_workers = omega (
        arith,
        c.requires.whole.some_workers,
        c.give.ensures.workers,
        c.note.ensures.noted.workers,
      );
      most_workers = omega (
        arith,
        c.requires.whole.most_workers,
        c.give.ensures.workers,
        c.note.ensures.noted.workers,
      );
      stands = λ _. put-some c.args.self.now c.note.new.self _ c.args.source c.args.message
          c.requires.in_range c.requires.may c.note.ensures.noted.plan_box
          c.note.ensures.noted.inputs c.args.out.now.items c.give.new.out.items
          c.give.ensures.inputs c.in_ok-give.ensures.gave (c.requires.whole.stands going);
    }

pub returns-clause-puts : goal.returns-clause-puts
returns-clause-puts g c =
    put-puts c.args.self.now c.note.new.self _ c.args.source c.args.message
    c.requires.in_range c.requires.may c.note.ensures.noted.plan_box
    c.note.ensures.noted.inputs c.args.out.now.items c.give.new.out.items
    c.give.ensures.inputs c.in_ok-give.ensures.gave

pub returns-clause-count : goal.returns-clause-count
returns-clause-count g c =
    count-kept c.args.self.now c.note.new.self c.give.new.self c.args.source c.args.message
    c.requires.in_range c.requires.may c.note.ensures.noted.plan_box
    c.note.ensures.noted.inputs c.give.ensures.inputs

pub returns-in_err-give-clause-count : goal.returns-in_err-give-clause-count
returns-in_err-give-clause-count g c =
    count-kept c.args.self.now c.note.new.self c.give.new.self c.args.source c.args.message
    c.requires.in_range c.requires.may c.note.ensures.noted.plan_box
    c.note.ensures.noted.inputs c.give.ensures.inputs
