-- What came to the top, on its way out one after another.
use Rattle.std.proofs.Common.{◌≡◌, ℕ, suc, ◌<◌, List, [], ◌∷◌, ◌++◌, length, get_or, take, drop}
use Rattle.std.proofs.Common.{map, Option, refl, sym, ◌∙◌, ap, subst, append_assoc}
use Rattle.std.proofs.lemmas.List.{append-nil, take-append-drop, map-id}
use Rattle.std.proofs.Math.Seq.{drop-cons}
use Rattle.pipes_stream.specs.declared.Elem.{Elem}
use Rattle.pipes_stream.specs.declared.message.Message.{Message}
use Rattle.pipes_stream.specs.Lists.{elements}
use Rattle.pipes_stream.proofs.Messages.{elements-append}
use Rattle.pipes_output.specs.declared.form.Form.{Form}
use Rattle.pipes_results.specs.declared.results.Results.{Results}
use Rattle.pipes_results.specs.Kept.{Keeps, StopsEarly}
use Rattle.pipes_inline.specs.Standing.{StopsWithin}

module _ {X : Type 0} where
  -- those so far and this one are a prefix of all
  pub prefix-at : (all yielded : List X) (x : X) → map (λ (y : X). y) yielded ≡ take
      (length yielded) all → (length yielded < length all) × (x ≡ get_or all (length yielded) x)
      → (rest : List X) × (all ≡ (yielded ++ x ∷ []) ++ rest)
  prefix-at all yielded x so_far turn =
      let k = length yielded in
      let next : drop k all ≡ x ∷ drop (suc k) all = drop-cons all k x turn.0
      ∙ ap (λ (y : X). y ∷ drop (suc k) all) (sym turn.1) in
      let prefix : take k all ≡ yielded = sym so_far ∙ map-id yielded in (
        drop (suc k) all,
        sym (take-append-drop k all) ∙ ap (λ (l : List X). l ++ drop k all) prefix
            ∙ ap (λ (l : List X). yielded ++ l) next
            ∙ sym (append_assoc yielded (x ∷ []) (drop (suc k) all)),
      )

elements-more : (elems : List Elem) (yielded : List Message) (m : Message)
    → (elems ++ elements yielded) ++ elements (m ∷ []) ≡ elems ++ elements (yielded ++ m ∷ [])
elements-more elems yielded m =
    append_assoc elems (elements yielded) (elements (m ∷ []))
    ∙ ap (λ (l : List Elem). elems ++ l) (sym (elements-append yielded (m ∷ [])))

pub kept-more : (init now : Option (List ℕ)) (r : Results) (elems : List Elem)
    (yielded : List Message) (m : Message)
    → Keeps init now r ((elems ++ elements yielded) ++ elements (m ∷ []))
    → Keeps init now r (elems ++ elements (yielded ++ m ∷ []))
kept-more init now r elems yielded m kept = subst (λ (l : List Elem). Keeps init now r l)
    (elements-more elems yielded m) kept

pub kept-none : (init now : Option (List ℕ)) (r : Results) (elems : List Elem)
    → Keeps init now r elems → Keeps init now r (elems ++ elements [])
kept-none init now r elems kept = subst (λ (l : List Elem). Keeps init now r l)
    (sym (append-nil elems)) kept

pub stops-at : (init now : Option (List ℕ)) (form here : Form) (elems : List Elem)
    (all yielded : List Message) (m : Message)
    → map (λ (x : Message). x) yielded ≡ take (length yielded) all
    → (length yielded < length all) × (m ≡ get_or all (length yielded) m) → here ≡ form
    → StopsEarly init now here ((elems ++ elements yielded) ++ elements (m ∷ []))
    → StopsWithin init now form elems (elements all)
stops-at init now form here elems all yielded m so_far turn same stop =
    let rest = prefix-at all yielded m so_far turn in (
      elements (yielded ++ m ∷ []),
      elements rest.0,
      ap elements rest.1 ∙ elements-append (yielded ++ m ∷ []) rest.0,
      subst (λ (f : Form). StopsEarly init now f (elems ++ elements (yielded ++ m ∷ []))) same
          (subst (λ (l : List Elem). StopsEarly init now here l)
          (elements-more elems yielded m) stop),
    )
