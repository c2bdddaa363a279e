use Rattle.std.proofs.Common.{◌≡◌, ℕ, ◌<◌, [], ◌∷◌}
use Rattle.pipes_works.proofs.GivenEach.{leaves-there, can-after, gives-after}
use Rattle.pipes_works.proofs.giving.give_after.Goals as goal

pub give_free-requires-clause-in_range : goal.give_free-requires-clause-in_range
give_free-requires-clause-in_range g c =
    leaves-there c.work_off.new.self c.args.leaf [] c.args.message
    (can-after c.args.plan_box.now c.work_off.new.self (c.args.leaf ∷ []) c.args.message
    c.args.out.now.items c.work_off.new.out.items c.work_off.ensures.works
    c.work_off.ensures.sound c.requires.can)

pub give_free-requires-clause-place : goal.give_free-requires-clause-place
give_free-requires-clause-place g c =
    let can = can-after c.args.plan_box.now c.work_off.new.self (c.args.leaf ∷ []) c.args.message
    c.args.out.now.items c.work_off.new.out.items c.work_off.ensures.works
    c.work_off.ensures.sound c.requires.can in
    c.keeps_up.ensures.places can.schemas can.plan can.given can.got can.stands c.args.leaf
    (leaves-there c.work_off.new.self c.args.leaf [] c.args.message can)

pub returns-clause-gave : goal.returns-clause-gave
returns-clause-gave g c =
    gives-after c.args.plan_box.now c.work_off.new.self c.give_free.new.plan_box c.args.leaf
    c.args.message c.args.out.now.items c.work_off.new.out.items c.work_off.ensures.works
    c.give_free.ensures.gave
