use Rattle.std.proofs.Common.{rules, ◌≡◌, List, Some, None, length, slice_get, swap_remove, subst}
use Rattle.std.proofs.Common.{sym, ap, ◌∙◌}
use Rattle.pipes_tuple.specs.declared.value.Value.{Value}
use Rattle.pipes_stream.specs.declared.Elem.{Elem}
use Rattle.pipes_coalesce.specs.Filed.{Entries, AreFiled, TakesOfTuple, contents}
use Rattle.pipes_coalesce.proofs.Filing.{entry-there, gone-filed, only-result}
use Rattle.pipes_coalesce.proofs.by_tuple.take_only.Goals as goal

pub returns-in-Some-clause-filed : goal.returns-in-Some-clause-filed
returns-in-Some-clause-filed c =
    let es : Entries = c.args.table.now.entries in
    let p : List Value × List Elem = (c.in-Some.field-0-0, c.in-Some.queue) in
    let at : slice_get es c.args.place ≡ Some p = sym c.swap_remove_index.ensures.entry
    ∙ c.in-Some.is in
    subst AreFiled (sym c.in-Some.ensures.entries)
    (gone-filed es c.args.place p at c.requires.filed)

pub returns-in-Some-clause-found : goal.returns-in-Some-clause-found
returns-in-Some-clause-found c =
    let es : Entries = c.args.table.now.entries in
    let p : List Value × List Elem = (c.in-Some.field-0-0, c.in-Some.queue) in
    let at : slice_get es c.args.place ≡ Some p = sym c.swap_remove_index.ensures.entry
    ∙ c.in-Some.is in
    subst (λ (fs : Entries). TakesOfTuple c.args.tuple.now (contents es) (contents fs) c.pop.result)
    (sym c.in-Some.ensures.entries)
    (only-result es c.args.place c.args.tuple.now p c.pop.result c.pop.new.self c.requires.filed
    c.requires.place at c.pop.ensures)

pub returns-clause-found : goal.returns-clause-found
returns-clause-found c =
    let es : Entries = c.args.table.now.entries in
    let some = entry-there es c.args.place c.args.tuple.now (λ w. length w ≡ 1) c.requires.place in
    absurd (let clash : None ≡ Some some.0 = sym c.in-None.is ∙ c.swap_remove_index.ensures.entry
    ∙ some.1 in cc)
