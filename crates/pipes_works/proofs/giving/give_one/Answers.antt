use Rattle.std.proofs.Common.{◌≡◌, ℕ, ◌<◌, [], ◌∷◌, subst, sym}
use Rattle.pipes_stream.specs.declared.message.Message.{Message}
use Rattle.pipes_works.specs.Passed.{CanGive, GivesEach}
use Rattle.pipes_works.proofs.GivenEach.{leaves-there, can-stay, gives-one, gives-stayed}
use Rattle.pipes_works.proofs.giving.give_one.Goals as goal

pub give-requires-clause-in_range : goal.give-requires-clause-in_range
give-requires-clause-in_range g c =
    leaves-there c.args.plan_box.now c.args.leaf [] c.args.message c.requires.can

pub returns-in-Ok-clause-gave : goal.returns-in-Ok-clause-gave
returns-in-Ok-clause-gave g c =
    gives-one c.args.plan_box.now c.give.new.self c.args.leaf c.args.message c.args.out.now.items
    c.in-Ok.ensures.gave

pub give_after-requires-clause-can : goal.give_after-requires-clause-can
give_after-requires-clause-can g c = λ κs within.
    subst (CanGive c.give.new.self (c.args.leaf ∷ [])) (sym c.in-Err.ensures.full)
    (can-stay c.args.plan_box.now c.give.new.self (c.args.leaf ∷ []) c.args.message
    c.in-Err.ensures.refused c.give.ensures.sound c.requires.can)

pub returns-in_ok-given-in-Err-clause-gave : goal.returns-in_ok-given-in-Err-clause-gave
returns-in_ok-given-in-Err-clause-gave g c =
    subst (λ (m : Message). GivesEach c.args.plan_box.now c.give_after.new.plan_box
    (c.args.leaf ∷ []) m c.args.out.now.items c.give_after.new.out.items) c.in-Err.ensures.full
    (gives-stayed c.args.plan_box.now c.give.new.self c.give_after.new.plan_box
    (c.args.leaf ∷ []) c.in-Err.full.0 c.args.out.now.items c.give_after.new.out.items
    c.in-Err.ensures.refused c.in_ok-given-in-Err.ensures.gave)
