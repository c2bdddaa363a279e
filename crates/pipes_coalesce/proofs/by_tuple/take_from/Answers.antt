use Rattle.std.proofs.Common.{rules, ◌≡◌, ◌≢◌, ◌<◌, ◌≤◌, ℕ, [], ◌∷◌, List, Some, None, length}
use Rattle.std.proofs.Common.{slice_get, position, subst, sym, ap, ◌∙◌, refl, arith}
use Rattle.std.specs.Map.{keys_of, values_of}
use Rattle.pipes_tuple.specs.declared.value.Value.{Value}
use Rattle.pipes_tuple.specs.Equal.{tuple_eq}
use Rattle.pipes_stream.specs.declared.Elem.{Elem}
use Rattle.pipes_coalesce.specs.Filed.{Entries}
use Rattle.pipes_coalesce.proofs.Filing.{found-one, found-more, lacks}
use Rattle.pipes_coalesce.proofs.by_tuple.take_from.Goals as goal

pub take_only-requires-clause-place : goal.take_only-requires-clause-place
take_only-requires-clause-place c =
    let es : Entries = c.args.table.now.entries in
    let found : position (tuple_eq c.args.tuple.now) (keys_of es) ≡ Some c.in-Some.place =
    search rules in
    let at : slice_get es c.in-Some.place ≡ Some (c.in-Some.field-0-1.now, c.in-Some.queue.now) =
    search rules in
    let one : length c.in-Some.queue.now ≡ 1 = search rules in
    found-one es c.in-Some.place c.args.tuple.now c.in-Some.field-0-1.now c.in-Some.queue.now found
    at one

pub take_first-requires-clause-place : goal.take_first-requires-clause-place
take_first-requires-clause-place c =
    let es : Entries = c.args.table.now.entries in
    let found : position (tuple_eq c.args.tuple.now) (keys_of es) ≡ Some c.in-Some.place =
    search rules in
    let at : slice_get es c.in-Some.place ≡ Some (c.in-Some.field-0-1.now, c.in-Some.queue.now) =
    search rules in
    let many : length c.in-Some.queue.now ≢ 1 = search rules in
    found-more es c.in-Some.place c.args.tuple.now c.in-Some.field-0-1.now c.in-Some.queue.now
    c.requires found at many

pub returns-in-None-clause-found : goal.returns-in-None-clause-found
returns-in-None-clause-found c =
    let es : Entries = c.args.table.now.entries in
    let none : position (tuple_eq c.args.tuple.now) (keys_of es) ≡ None = search rules in
    (refl, lacks es c.args.tuple.now none c.requires)
