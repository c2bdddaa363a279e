use Rattle.std.proofs.Common.{◌≡◌, ℕ, ◌≤◌, ◌-◌, List, [], ◌∷◌, length, get_or, take, drop, sym, subst}
use Rattle.std.proofs.Common.{arith}
use Rattle.pipes_stream.specs.declared.message.Message.{Message}
use Rattle.pipes_works.specs.Passed.{CanGive, GivesEach}
use Rattle.pipes_works.proofs.GivenEach.{first-rest, can-rest, gives-then}
use Rattle.pipes_works.proofs.giving.+give_each.Goals as goal

pub give_each-requires-clause-can : goal.give_each-requires-clause-can
give_each-requires-clause-can g t c κs within =
    let leaves : List ℕ = c.args.leaves.now in
    let first : ℕ = get_or leaves 0 0 in
    let rest : List ℕ = take (length leaves - 1) (drop 1 leaves) in
    let some : 1 ≤ length leaves = omega (arith, c.in-len1-up.len_at_least) in
    can-rest c.args.plan_box.now c.give_one-in-len1-up.new.plan_box first rest c.args.message
    c.args.out.now.items c.give_one-in-len1-up.new.out.items
    (subst (λ (m : Message). GivesEach c.args.plan_box.now c.give_one-in-len1-up.new.plan_box
    (first ∷ []) m c.args.out.now.items c.give_one-in-len1-up.new.out.items)
    c.in_ok-copy-in-len1-up.ensures c.in_ok-give_one-in-len1-up.ensures.gave)
    c.give_one-in-len1-up.ensures.sound
    (subst (λ (ls : List ℕ). CanGive c.args.plan_box.now ls c.args.message)
    (sym (first-rest leaves some)) c.requires.can)

pub returns-in_ok-rest_given-in-len1-up-clause-gave :
    goal.returns-in_ok-rest_given-in-len1-up-clause-gave
returns-in_ok-rest_given-in-len1-up-clause-gave g t c =
    let leaves : List ℕ = c.args.leaves.now in
    let first : ℕ = get_or leaves 0 0 in
    let rest : List ℕ = take (length leaves - 1) (drop 1 leaves) in
    let some : 1 ≤ length leaves = omega (arith, c.in-len1-up.len_at_least) in
    subst (λ (ls : List ℕ). GivesEach c.args.plan_box.now c.give_each.new.plan_box ls
    c.args.message c.args.out.now.items c.give_each.new.out.items) (first-rest leaves some)
    (gives-then c.args.plan_box.now c.give_one-in-len1-up.new.plan_box
    c.give_each.new.plan_box first rest c.args.message c.args.out.now.items
    c.give_one-in-len1-up.new.out.items c.give_each.new.out.items
    (subst (λ (m : Message). GivesEach c.args.plan_box.now c.give_one-in-len1-up.new.plan_box
    (first ∷ []) m c.args.out.now.items c.give_one-in-len1-up.new.out.items)
    c.in_ok-copy-in-len1-up.ensures c.in_ok-give_one-in-len1-up.ensures.gave)
    c.in_ok-rest_given-in-len1-up.ensures.gave)
