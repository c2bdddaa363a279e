use Rattle.std.proofs.Common.{◌≡◌, ◌≤◌, ◌∙◌, map, length, List, ℕ, Option, [], ap, subst, arith}
use Rattle.std.proofs.lemmas.List.{length-map}
use Rattle.pipes_query.specs.declared.query.SourceDecl.{SourceDecl}
use Rattle.pipes_inline.specs.Standing.{AllNew}
use Rattle.pipes_inline.proofs.Opening.{goes-first}
use Rattle.pipes_inline.proofs.starting.start.Goals as goal

pub returns-clause-goes : goal.returns-clause-goes
returns-clause-goes g c = λ written.
    let query = c.args.query.now in
    let before = c.args.srcs.now in
    let after = c.intakes_of.new.srcs in
    let value = c.as_slice.ensures.value in
    let lefts = map g.S.Source.left before in
    let faults = map g.S.Source.faults before in
    let read = c.in_ok-intakes.ensures in
    let same = ap length read.name in
    let first = length-map before g.S.Source.name in
    let last = length-map after g.S.Source.name in
    goes-first (record { query = query; lefts = lefts; faults = faults; written = written })
    (map g.S.Source.left after) (map g.S.Source.faults after) _ c.requires.typed
    c.as_slice.ensures.bound
    (subst (λ (ss : List SourceDecl). length c.in_ok-intakes.intakes.items ≡ length ss) value
    read.count)
    (omega (arith, length-map after g.S.Source.faults, same, first, last, c.requires.count))
    (omega (arith, length-map after g.S.Source.left, same, first, last, c.requires.count))
    (subst (λ (ss : List SourceDecl). AllNew ss lefts (map g.S.Source.left after) faults
    (map g.S.Source.faults after) (length ss) c.in_ok-intakes.intakes.items) value read.stand)
    c.in_ok-schemas.schemas c.in_ok-schemas.ensures c.in_ok-works.ensures.stands
    c.new-2.ensures.items (c.new-3.ensures.kept written)
