-- Results on their way out: one more, and the end.
use Rattle.std.proofs.Common.{◌≡◌, ◌⊎◌, ℕ, List, [], ◌∷◌, ◌++◌, map, take, Option, refl, sym, ◌∙◌}
use Rattle.std.proofs.Common.{ap, subst, append_assoc, inr}
use Rattle.std.proofs.lemmas.List.{append-nil, map-append}
use Rattle.std.proofs.lemmas.Grind.{flat_map-append}
use Rattle.std.specs.Io.KnownBytes.{Appends}
use Rattle.std.proofs.KnownBytes.{Appends-trans}
use Rattle.pipes_stream.specs.declared.Elem.{Elem}
use Rattle.pipes_stream.specs.Snapshot.{snapshot}
use Rattle.pipes_output.specs.declared.entry.Entry.{Entry}
use Rattle.pipes_output.specs.declared.entry.Entry.TheVariants.{Result, Ended}
use Rattle.pipes_output.specs.declared.form.Form.TheVariants.{Stream}
use Rattle.pipes_output.specs.Lines.{line, lines}
use Rattle.pipes_output.specs.NormalText.{IsNormalText}
use Rattle.pipes_buffer.specs.Pieces.{AppendsPrefix, PassesOn}
use Rattle.pipes_buffer.proofs.Appended.{prefix_in, prefix_as, prefix_all}
use Rattle.pipes_buffer.proofs.Passing.{passed-then, prefix-then, all-passed, passed-grown}
use Rattle.pipes_semantics.specs.Written.{entries_of}
use Rattle.std.specs.declared.vec.Vec.{Vec}
use Rattle.std.specs.declared.alloc.Global.{Global}
use Rattle.pipes_results.specs.declared.results.Results.{Results}
use Rattle.pipes_results.specs.declared.results.Results.TheVariants as kept
use Rattle.pipes_results.specs.Kept.{Keeps, StopsEarly, WritesPrefixOf, WritesWhole, form_of}

pub lines-more : (elems : List Elem) (e : Elem) → lines (map Result (elems ++ e ∷ [])) ≡ lines
    (map Result elems) ++ line (Result e)
lines-more elems e =
    ap (λ (l : List Entry). lines l) (map-append Result elems (e ∷ []))
    ∙ flat_map-append line (map Result elems) (Result e ∷ [])
    ∙ ap (λ (l : List ℕ). lines (map Result elems) ++ l) (append-nil (line (Result e)))

pub lines-entries : (elems : List Elem) (last : Entry) → lines (entries_of elems last) ≡ lines
    (map Result elems) ++ line last
lines-entries elems last = flat_map-append line (map Result elems) (last ∷ [])
    ∙ ap (λ (l : List ℕ). lines (map Result elems) ++ l) (append-nil (line last))

-- a line more of the stream
pub stream-put : (init cur new : Option (List ℕ)) (elems : List Elem) (e : Elem)
    (text left : List ℕ) → PassesOn init cur (lines (map Result elems)) text
    → PassesOn cur new (text ++ line (Result e)) left → PassesOn init new
    (lines (map Result (elems ++ e ∷ []))) left
stream-put init cur new elems e text left kept next =
    subst (λ (l : List ℕ). PassesOn init new l left) (sym (lines-more elems e))
    (passed-then init cur new (lines (map Result elems)) text (line (Result e)) left kept next)

-- a prefix of the lines of some elements is a prefix of them and this entry
pub stream-stops : (init new : Option (List ℕ)) (elems : List Elem) (last : Entry)
    → AppendsPrefix init new (lines (entries_of elems last))
    → WritesPrefixOf init new Stream elems last
stream-stops init new elems last prefix = (
  take prefix.0 (lines (entries_of elems last)),
  prefix.1,
  inr (lines (entries_of elems last), prefix.0, refl, refl),
)

pub stream-stopped : (init cur new : Option (List ℕ)) (elems : List Elem) (e : Elem) (text : List ℕ)
    → PassesOn init cur (lines (map Result elems)) text → AppendsPrefix cur new
    (text ++ line (Result e)) → StopsEarly init new Stream (elems ++ e ∷ [])
stream-stopped init cur new elems e text kept prefix =
    let some = prefix-then init cur new (lines (map Result elems)) text (line (Result e)) kept
    prefix in
    let these = prefix_as init new _ _ (sym (lines-more elems e)) some in
    stream-stops init new (elems ++ e ∷ []) Ended (prefix_as init new _ _
    (sym (lines-entries (elems ++ e ∷ []) Ended)) (prefix_in init new
    (lines (map Result (elems ++ e ∷ []))) (line Ended) these))

-- nothing more is written of the stream
pub stream-kept : (init cur : Option (List ℕ)) (elems : List Elem) (text : List ℕ)
    → PassesOn init cur (lines (map Result elems)) text → StopsEarly init cur Stream elems
stream-kept init cur elems text kept =
    let whole = sym (lines-entries elems Ended) in
    let some = prefix_in init cur kept.0 (text ++ line Ended) (prefix_all init cur kept.0 kept.1) in
    stream-stops init cur elems Ended (prefix_as init cur _ _ (split ∙ whole) some)
  where
    split : kept.0 ++ (text ++ line Ended) ≡ lines (map Result elems) ++ line Ended
    split = sym (append_assoc kept.0 text (line Ended)) ∙ ap (λ (l : List ℕ). l ++ line Ended)
        (sym kept.2)

-- the stream to its end
pub stream-written : (init cur new : Option (List ℕ)) (elems : List Elem) (last : Entry)
    (text : List ℕ) → PassesOn init cur (lines (map Result elems)) text
    → Appends cur new (text ++ line last) → WritesWhole init new Stream elems last
stream-written init cur new elems last text kept all = (
  lines (entries_of elems last),
  subst (λ (l : List ℕ). Appends init new l)
      (sym (lines-entries elems last)) (all-passed init cur new _ (text ++ line last)
      (passed-grown init cur _ text (line last) _ _ kept refl refl) all),
  refl,
)

pub stream-cut : (init cur new : Option (List ℕ)) (elems : List Elem) (last : Entry) (text : List ℕ)
    → PassesOn init cur (lines (map Result elems)) text → AppendsPrefix cur new (text ++ line last)
    → WritesPrefixOf init new Stream elems last
stream-cut init cur new elems last text kept prefix =
    stream-stops init new elems last (prefix_as init new _ _ (sym (lines-entries elems last))
    (prefix-then init cur new (lines (map Result elems)) text (line last) kept prefix))

-- the same of results, whatever their form

pub put-ok : (init cur new : Option (List ℕ)) (r : Results) (text left : Vec ℕ Global)
    (elems : List Elem) (e : Elem) → r ≡ kept.Stream text → Keeps init cur r elems
    → PassesOn cur new (text.items ++ line (Result e)) left.items
    → Keeps init new (kept.Stream left) (elems ++ e ∷ [])
put-ok init cur new r text left elems e is kept next = stream-put init cur new elems e text.items
    left.items (subst (λ (x : Results). Keeps init cur x elems) is kept) next

pub put-stopped : (init cur new : Option (List ℕ)) (r : Results) (text : Vec ℕ Global)
    (elems : List Elem) (e : Elem) → r ≡ kept.Stream text → Keeps init cur r elems
    → AppendsPrefix cur new (text.items ++ line (Result e)) → StopsEarly init new (form_of r)
    (elems ++ e ∷ [])
put-stopped init cur new r text elems e is kept prefix =
    subst (λ (x : Results). StopsEarly init new (form_of x) (elems ++ e ∷ [])) (sym is)
    (stream-stopped init cur new elems e text.items
    (subst (λ (x : Results). Keeps init cur x elems) is kept) prefix)

pub end-ok : (init cur new : Option (List ℕ)) (r : Results) (text : Vec ℕ Global)
    (elems : List Elem) (last : Entry) → r ≡ kept.Stream text → Keeps init cur r elems
    → Appends cur new (text.items ++ line last) → WritesWhole init new (form_of r) elems last
end-ok init cur new r text elems last is kept all =
    subst (λ (x : Results). WritesWhole init new (form_of x) elems last) (sym is)
    (stream-written init cur new elems last text.items
    (subst (λ (x : Results). Keeps init cur x elems) is kept) all)

pub end-cut : (init cur new : Option (List ℕ)) (r : Results) (text : Vec ℕ Global)
    (elems : List Elem) (last : Entry) → r ≡ kept.Stream text → Keeps init cur r elems
    → AppendsPrefix cur new (text.items ++ line last) → WritesPrefixOf init new (form_of r) elems
    last
end-cut init cur new r text elems last is kept prefix =
    subst (λ (x : Results). WritesPrefixOf init new (form_of x) elems last) (sym is)
    (stream-cut init cur new elems last text.items
    (subst (λ (x : Results). Keeps init cur x elems) is kept) prefix)

abbrev CutText : List Elem → List ℕ → Type 0
CutText elems bytes = (bytes ≡ []) ⊎ ((text : List ℕ) × (n : ℕ) × IsNormalText (snapshot elems) text
    × (bytes ≡ take n text))

pub end-cut-normal : (init cur new : Option (List ℕ)) (r : Results) (normal elems : List Elem)
    (last : Entry) → r ≡ kept.Normal normal → Keeps init cur r elems → (bytes : List ℕ)
    × Appends cur new bytes × CutText normal bytes → WritesPrefixOf init new (form_of r) elems last
end-cut-normal init cur new r normal elems last is kept cut =
    let keeps = subst (λ (x : Results). Keeps init cur x elems) is kept in
    let text = subst (λ (l : List Elem). CutText l cut.0) keeps.1 cut.2 in
    subst (λ (x : Results). WritesPrefixOf init new (form_of x) elems last) (sym is)
    (cut.0, Appends-trans init cur new [] cut.0 keeps.0 cut.1, text)

-- nothing more is written of results that wait
pub kept-stopped : (init cur : Option (List ℕ)) (r : Results) (elems : List Elem)
    → Keeps init cur r elems → StopsEarly init cur (form_of r) elems
kept-stopped init cur (kept.Stream text) elems keeps = stream-kept init cur elems text.items keeps
kept-stopped init cur (kept.Normal normal) elems keeps = ([], keeps.0, refl)
