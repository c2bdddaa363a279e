use Rattle.std.proofs.Common.{rules, ◌≡◌, ◌<◌, [], ◌∷◌, List, Some, None, length, slice_get, subst}
use Rattle.std.proofs.Common.{sym, ap, ◌∙◌}
use Rattle.std.specs.Map.{values_of}
use Rattle.pipes_stream.specs.declared.Elem.{Elem}
use Rattle.pipes_coalesce.specs.Filed.{Entries}
use Rattle.pipes_coalesce.proofs.Filing.{there, popped-filed, popped-found, some-there}
use Rattle.pipes_coalesce.proofs.by_tuple.take_first.Goals as goal

pub returns-in-Some-pop-clause-filed : goal.returns-in-Some-pop-clause-filed
returns-in-Some-pop-clause-filed c =
    let es : Entries = c.args.table.now.entries in
    let at : slice_get (values_of es) c.args.place ≡ Some c.in-Some.queue.now = search rules in
    popped-filed es c.args.place c.args.tuple.now c.in-Some-pop.elem c.in-Some.queue.now
    c.pop.new.self c.requires.filed c.requires.place at
    (search rules)

pub returns-in-Some-pop-clause-found : goal.returns-in-Some-pop-clause-found
returns-in-Some-pop-clause-found c =
    let es : Entries = c.args.table.now.entries in
    let at : slice_get (values_of es) c.args.place ≡ Some c.in-Some.queue.now = search rules in
    popped-found es c.args.place c.args.tuple.now
    (λ w. 1 < length w) c.in-Some-pop.elem c.in-Some.queue.now c.pop.new.self c.requires.filed
    c.requires.place at (search rules)

pub returns-in-None-pop-clause-filed : goal.returns-in-None-pop-clause-filed
returns-in-None-pop-clause-filed c =
    let es : Entries = c.args.table.now.entries in
    let at : slice_get (values_of es) c.args.place ≡ Some c.in-Some.queue.now = search rules in
    let none : c.in-Some.queue.now ≡ [] = search rules in
    absurd (some-there es c.args.place c.args.tuple.now
    (λ w. 1 < length w) c.requires.filed c.requires.place
    (at ∙ ap (λ (w : List Elem). Some w) none))

pub returns-in-None-pop-clause-found : goal.returns-in-None-pop-clause-found
returns-in-None-pop-clause-found c =
    let es : Entries = c.args.table.now.entries in
    let at : slice_get (values_of es) c.args.place ≡ Some c.in-Some.queue.now = search rules in
    let none : c.in-Some.queue.now ≡ [] = search rules in
    absurd (some-there es c.args.place c.args.tuple.now
    (λ w. 1 < length w) c.requires.filed c.requires.place
    (at ∙ ap (λ (w : List Elem). Some w) none))

pub returns-in-None-clause-found : goal.returns-in-None-clause-found
returns-in-None-clause-found c =
    let es : Entries = c.args.table.now.entries in
    let at : slice_get (values_of es) c.args.place ≡ None = search rules in
    let some = there es c.args.place c.args.tuple.now (λ w. 1 < length w) c.requires.place in
    absurd (let clash : None ≡ Some some.0 = sym at ∙ some.1 in cc)
