use Rattle.std.proofs.Common.{◌≡◌, ℕ, List, Option, length, arith, rules, subst}
use Rattle.pipes_window.specs.declared.item.Item.{Item}
use Rattle.pipes_inline.specs.Standing.{Ends}
use Rattle.pipes_inline.proofs.ending.finish_all.Goals as goal

pub finish_one-requires-clause-ends : goal.finish_one-requires-clause-ends
finish_one-requires-clause-ends g c κs within =
    let r = c.requires.ends in
    (r.0, r.1, r.2, c.places.invariant.ends r.0 r.1 r.2 r.3)

pub places-preserved : goal.places-preserved
places-preserved g c = record {
  whole = search rules;
  count = search rules;
  results = search rules;
  ends = λ start now taken e. c.in_ok-finish_one.ensures.ends start now taken
      (c.places.invariant.ends start now taken e);
}

pub returns-clause-ends : goal.returns-clause-ends
returns-clause-ends g c = λ start now taken e.
    let at : c.places.place ≡ length start.query.sources = omega (arith, e.count) in
    subst (λ (n : ℕ). Ends start n now taken c.places.underway) at
    (c.places.invariant.ends start now taken e)
