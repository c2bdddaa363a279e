use Rattle.std.proofs.Common.{rules, ◌≡◌, ◌++◌, [], ◌∷◌, List, Some, None, position, arith, subst}
use Rattle.std.proofs.Common.{sym, ap, ◌∙◌}
use Rattle.std.specs.Map.{keys_of, values_of}
use Rattle.std.specs.Prelude.{⊤, slice_get}
use Rattle.indexmap.specs.IndexMap.{get}
use Rattle.indexmap.proofs.CallerLemmas.{insert_entry-new}
use Rattle.pipes_tuple.specs.declared.value.Value.{Value}
use Rattle.pipes_tuple.specs.Equal.{tuple_eq}
use Rattle.pipes_stream.specs.declared.Elem.{Elem}
use Rattle.pipes_stream.specs.Weights.{weigh}
use Rattle.pipes_coalesce.specs.Filed.{Entries, AreFiled, Added, contents, EntryAt}
use Rattle.pipes_coalesce.proofs.Filing.{weaker, found-there, unfound, added-filed, added-weights}
use Rattle.pipes_coalesce.proofs.by_tuple.put_in.Goals as goal

pub push_at-requires-clause-place : goal.push_at-requires-clause-place
push_at-requires-clause-place c =
    let es : Entries = c.args.table.now.entries in
    let found : position (tuple_eq c.args.elem.tuple) (keys_of es) ≡ Some c.in-Some.place =
    search rules in
    weaker es c.in-Some.place c.args.elem.tuple
    (λ q. slice_get (values_of es) c.in-Some.place ≡ Some q) (λ _. ⊤) (λ q h. tt)
    (found-there es c.in-Some.place c.args.elem.tuple found)

pub returns-in-Ok-clause-filed : goal.returns-in-Ok-clause-filed
returns-in-Ok-clause-filed c =
    let es : Entries = c.args.table.now.entries in
    let key : c.in_ok-key-in-None.key ≡ c.args.elem.tuple = search rules in
    let queue : c.in_ok-queue-in-None.queue ≡ c.args.elem ∷ [] = search rules in
    let none : position (tuple_eq c.args.elem.tuple) (keys_of es) ≡ None = search rules in
    let free = subst (λ (t : List Value). get tuple_eq c.args.table.now t ≡ None) (sym key)
    (unfound es c.args.elem.tuple none) in
    let is = c.in-Ok.ensures.entries
    ∙ insert_entry-new tuple_eq c.args.table.now c.in_ok-key-in-None.key
    c.in_ok-queue-in-None.queue free in
    subst AreFiled (sym is)
    (added-filed es c.args.elem c.in_ok-key-in-None.key c.in_ok-queue-in-None.queue c.requires key
    queue)

pub returns-in-Ok-clause-added : goal.returns-in-Ok-clause-added
returns-in-Ok-clause-added c = λ f.
    let es : Entries = c.args.table.now.entries in
    let key : c.in_ok-key-in-None.key ≡ c.args.elem.tuple = search rules in
    let queue : c.in_ok-queue-in-None.queue ≡ c.args.elem ∷ [] = search rules in
    let none : position (tuple_eq c.args.elem.tuple) (keys_of es) ≡ None = search rules in
    let free = subst (λ (t : List Value). get tuple_eq c.args.table.now t ≡ None) (sym key)
    (unfound es c.args.elem.tuple none) in
    let is = c.in-Ok.ensures.entries
    ∙ insert_entry-new tuple_eq c.args.table.now c.in_ok-key-in-None.key
    c.in_ok-queue-in-None.queue free in
    ap (λ (fs : Entries). weigh f (contents fs)) is
    ∙ added-weights f es c.args.elem c.in_ok-key-in-None.key c.in_ok-queue-in-None.queue queue
