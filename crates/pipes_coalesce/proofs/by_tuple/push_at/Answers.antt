use Rattle.std.proofs.Common.{rules, ◌≡◌, ◌++◌, [], ◌∷◌, List, Some, slice_get, ap, subst, sym, ◌∙◌}
use Rattle.std.specs.Map.{values_of}
use Rattle.std.specs.Prelude.{⊤}
use Rattle.indexmap.specs.Layout.{set_value_at}
use Rattle.pipes_stream.specs.declared.Elem.{Elem}
use Rattle.pipes_coalesce.specs.Filed.{Entries, AreFiled, Added, contents}
use Rattle.pipes_coalesce.proofs.Filing.{pushed-filed, pushed-added, same-weights}
use Rattle.pipes_coalesce.proofs.by_tuple.push_at.Goals as goal

pub returns-in-Ok-clause-filed : goal.returns-in-Ok-clause-filed
returns-in-Ok-clause-filed c =
    let es : Entries = c.args.table.now.entries in
    let at : slice_get (values_of es) c.args.place ≡ Some c.in-Some.queue.now = search rules in
    let put : c.push.new.self ≡ c.in-Some.queue.now ++ c.args.elem ∷ [] = search rules in
    subst (λ (w : List Elem). AreFiled (set_value_at es c.args.place w)) (sym put)
    (pushed-filed es c.args.place c.args.elem
    (λ _. ⊤) c.in-Some.queue.now c.requires.filed c.requires.place at)

pub returns-in-Ok-clause-added : goal.returns-in-Ok-clause-added
returns-in-Ok-clause-added c =
    let es : Entries = c.args.table.now.entries in
    let at : slice_get (values_of es) c.args.place ≡ Some c.in-Some.queue.now = search rules in
    let put : c.push.new.self ≡ c.in-Some.queue.now ++ c.args.elem ∷ [] = search rules in
    subst (λ (w : List Elem). Added c.args.elem (contents es)
    (contents (set_value_at es c.args.place w))) (sym put)
    (pushed-added es c.args.place c.args.elem c.in-Some.queue.now at)

pub returns-in-Err-clause-filed : goal.returns-in-Err-clause-filed
returns-in-Err-clause-filed c =
    let es : Entries = c.args.table.now.entries in
    let at : slice_get (values_of es) c.args.place ≡ Some c.in-Some.queue.now = search rules in
    let same : c.push.new.self ≡ c.in-Some.queue.now = search rules in
    let back = ap (set_value_at es c.args.place) same
    ∙ same-weights es c.args.place c.in-Some.queue.now at in
    subst AreFiled (sym back) c.requires.filed

pub returns-in-Err-clause-memory : goal.returns-in-Err-clause-memory
returns-in-Err-clause-memory c =
    let es : Entries = c.args.table.now.entries in
    let at : slice_get (values_of es) c.args.place ≡ Some c.in-Some.queue.now = search rules in
    let same : c.push.new.self ≡ c.in-Some.queue.now = search rules in
    ap contents (ap (set_value_at es c.args.place) same
    ∙ same-weights es c.args.place c.in-Some.queue.now at)
