-- Several sources, one more and the first that is refused.
use Rattle.std.proofs.Common.{◌≡◌, ℕ, ◌+◌, ◌<◌, List, [], ◌∷◌, ◌++◌, length, map, take, drop}
use Rattle.std.proofs.Common.{get_or, Result, Ok, Err, refl, sym, ap, ◌∙◌, append_assoc, arith}
use Rattle.std.proofs.Common.{subst, Vec}
use Rattle.std.specs.declared.alloc.Global.{Global}
use Rattle.std.specs.List.{All}
use Rattle.std.proofs.lemmas.Grind.{take_at_read}
use Rattle.std.proofs.lemmas.List.{take-append-drop, map-append}
use Rattle.pipes_tuple.specs.declared.value.Value.{Value}
use Rattle.pipes_tuple.specs.declared.value.Kind.{Kind}
use Rattle.pipes_tuple.specs.Kinds.{Fits}
use Rattle.pipes_window.specs.declared.item.Item.{Item}
use Rattle.pipes_window.specs.Windows.{in_window}
use Rattle.pipes_relation.specs.Relations.{bag_lists}
use Rattle.pipes_plan.specs.PlanKinds.{BagsFit}
use Rattle.pipes_edge.specs.Outside.{Names, NoneFalls}
use Rattle.pipes_query.specs.declared.query.SourceDecl.{SourceDecl}
use Rattle.pipes_semantics.specs.Answer.{bags_at}
use Rattle.pipes_error.specs.Fault.{Fault, Words, QueryText, QueryType, DerivationText, Unbuilt}
use Rattle.pipes_error.specs.Fault.{Missing, ReadFile}
use Rattle.pipes_error.specs.Fault.{ReadSource, Row, Limit, Write, Memory}
use Rattle.pipes_answer.specs.Gives.{HasAnswerCause, Refuses}
use Rattle.pipes_time.specs.Results.{◌>>=◌}
use Rattle.pipes_answer.specs.Whole.{source_items, whole_items}

-- the items of a first source and of the others
abbrev joined : Result (List Item) Fault → Result (List (List Item)) Fault
    → Result (List (List Item)) Fault
joined first others = first >>= λ i. others >>= λ is. Ok (i ∷ is)

record Both (first : Result (List Item) Fault) (others : Result (List (List Item)) Fault)
    (all : List (List Item)) : Type 0 where
  head : List Item
  tail : List (List Item)
  first_is : first ≡ Ok head
  others_are : others ≡ Ok tail
  all_are : all ≡ head ∷ tail

both : (first : Result (List Item) Fault) (others : Result (List (List Item)) Fault)
    (all : List (List Item)) → joined first others ≡ Ok all → Both first others all
both (Ok i) (Ok is) all h = record {
  head = i;
  tail = is;
  first_is = refl;
  others_are = refl;
  all_are = cc;
}
both (Ok i) (Err e) all h = absurd (cc)
both (Err e) others all h = absurd (cc)

-- one source more
pub whole-more : (files : Names) (ss : List SourceDecl) (s : SourceDecl) (items : List (List Item))
    (last : List Item) → whole_items files ss ≡ Ok items → source_items files s ≡ Ok last
    → whole_items files (ss ++ s ∷ []) ≡ Ok (items ++ last ∷ [])
whole-more files [] s items last all one =
    let none : items ≡ [] = cc in
    ap (λ (r : Result (List Item) Fault). joined r (Ok [])) one
    ∙ ap (λ (l : List (List Item)). Ok (l ++ last ∷ [])) (sym none)
whole-more files (x ∷ xs) s items last all one =
    let b = both (source_items files x) (whole_items files xs) items all in
    let more : whole_items files (xs ++ s ∷ []) ≡ Ok (b.tail ++ last ∷ []) =
    whole-more files xs s b.tail last b.others_are one in
    ap (λ (r : Result (List Item) Fault). joined r (whole_items files (xs ++ s ∷ []))) b.first_is
    ∙ ap (λ (r : Result (List (List Item)) Fault). joined (Ok b.head) r) more
    ∙ ap (λ (l : List (List Item)). Ok (l ++ last ∷ [])) (sym b.all_are)

-- a source that is refused, after sources that are not
pub whole-refused : (files : Names) (ss : List SourceDecl) (s : SourceDecl) (rest : List SourceDecl)
    (items : List (List Item)) (fault : Fault) → whole_items files ss ≡ Ok items
    → source_items files s ≡ Err fault → whole_items files (ss ++ s ∷ rest) ≡ Err fault
whole-refused files [] s rest items fault all one = ap (λ (r : Result (List Item) Fault). joined r
    (whole_items files rest)) one
whole-refused files (x ∷ xs) s rest items fault all one =
    let b = both (source_items files x) (whole_items files xs) items all in
    ap (λ (r : Result (List Item) Fault). joined r (whole_items files (xs ++ s ∷ rest))) b.first_is
    ∙ ap (λ (r : Result (List (List Item)) Fault). joined (Ok b.head) r)
    (whole-refused files xs s rest b.tail fault b.others_are one)

-- the rows of one source more
pub bags-more : (files : Names) (ss : List SourceDecl) (s : SourceDecl) (items : List (List Item))
    (last : List Item) (t : ℕ) → whole_items files ss ≡ Ok items
    → bags_at (ss ++ s ∷ []) (items ++ last ∷ []) t ≡ bags_at ss items t
    ++ in_window s.window last t ∷ []
bags-more files [] s items last t all =
    let none : items ≡ [] = cc in
    ap (λ (l : List (List Item)). bags_at (s ∷ []) (l ++ last ∷ []) t) none
bags-more files (x ∷ xs) s items last t all =
    let b = both (source_items files x) (whole_items files xs) items all in
    ap (λ (l : List (List Item)). bags_at (x ∷ xs ++ s ∷ []) (l ++ last ∷ []) t) b.all_are
    ∙ ap (λ (l : List (List (List Value))). in_window x.window b.head t ∷ l)
    (bags-more files xs s b.tail last t b.others_are)
    ∙ ap (λ (l : List (List Item)). bags_at (x ∷ xs) l t ++ in_window s.window last t ∷ [])
    (sym b.all_are)

abbrev schemas : List SourceDecl → List (List Kind)
schemas ss = map (λ s. s.schema) ss

pub fit-more : (bags : List (List (List Value))) (ss : List SourceDecl) (bag : List (List Value))
    (s : SourceDecl) → BagsFit bags (schemas ss) → All (λ (row : List Value). Fits row s.schema) bag
    → BagsFit (bags ++ bag ∷ []) (schemas (ss ++ s ∷ []))
fit-more [] [] bag s fit one = (one, tt)
fit-more [] (x ∷ xs) bag s fit one = absurd fit
fit-more (b ∷ bs) [] bag s fit one = absurd fit
fit-more (b ∷ bs) (x ∷ xs) bag s fit one = (fit.0, fit-more bs xs bag s fit.1 one)

-- where the sources before a place end
pub prefix-more : (ss : List SourceDecl) (i : ℕ) (s : SourceDecl) → i < length ss
    → s ≡ get_or ss i s
    → take (i + 1) ss ≡ take i ss ++ s ∷ []
prefix-more ss i s within is = (take_at_read ss i s within).1
    ∙ ap (λ (x : SourceDecl). take i ss ++ x ∷ []) (sym is)

pub prefix-split : (ss : List SourceDecl) (i : ℕ) (s : SourceDecl) → i < length ss
    → s ≡ get_or ss i s → ss ≡ take i ss ++ (s ∷ drop (i + 1) ss)
prefix-split ss i s within is =
    sym (take-append-drop (i + 1) ss) ∙ ap (λ (l : List SourceDecl). l ++ drop (i + 1) ss)
    (prefix-more ss i s within is) ∙ append_assoc (take i ss) (s ∷ []) (drop (i + 1) ss)

-- a fault of a later part is one of the whole
pub cause-later : (fault : Fault) (before mid now : List ℕ → ℕ) → NoneFalls before mid
    → HasAnswerCause mid now fault → HasAnswerCause before now fault
cause-later Words before mid now later rose = tt
cause-later (QueryText refusal) before mid now later rose = tt
cause-later (QueryType refusal) before mid now later rose = tt
cause-later (DerivationText file refusal) before mid now later rose = tt
cause-later Unbuilt before mid now later rose = tt
cause-later (Missing name) before mid now later rose = tt
cause-later (ReadFile name) before mid now later rose = omega (arith, later name, rose)
cause-later (ReadSource name) before mid now later rose = tt
cause-later (Row name line why) before mid now later rose = tt
cause-later (Limit name line) before mid now later rose = tt
cause-later Write before mid now later rose = tt
cause-later Memory before mid now later rose = tt

-- the first source that is refused
pub refused-at : (files : Names) (ss : List SourceDecl) (i : ℕ) (s : SourceDecl)
    (items : List (List Item)) (fault : Fault) → i < length ss → s ≡ get_or ss i s
    → whole_items files (take i ss) ≡ Ok items → Refuses (source_items files s) fault
    → Refuses (whole_items files ss) fault
refused-at files ss i s items fault within is all = by fault
  where
    refused : (f : Fault) → source_items files s ≡ Err f → whole_items files ss ≡ Err f
    refused f one = ap (λ (l : List SourceDecl). whole_items files l)
        (prefix-split ss i s within is)
        ∙ whole-refused files (take i ss) s (drop (i + 1) ss) items f all one

    by : (f : Fault) → Refuses (source_items files s) f → Refuses (whole_items files ss) f
    by Words h = refused Words h
    by (QueryText refusal) h = refused (QueryText refusal) h
    by (QueryType refusal) h = refused (QueryType refusal) h
    by (DerivationText file refusal) h = refused (DerivationText file refusal) h
    by Unbuilt h = refused Unbuilt h
    by (Missing name) h = refused (Missing name) h
    by (ReadFile name) h = tt
    by (ReadSource name) h = refused (ReadSource name) h
    by (Row name line why) h = refused (Row name line why) h
    by (Limit name line) h = refused (Limit name line) h
    by Write h = refused Write h
    by Memory h = tt

-- the bags of the sources before a place, and one more

bag_lists-more : (bags more : List (Vec (List Value) Global)) (rows : Vec (List Value) Global)
    → more ≡ bags ++ rows ∷ [] → bag_lists more ≡ bag_lists bags ++ rows.items ∷ []
bag_lists-more bags more rows is = ap bag_lists is ∙ map-append
    (λ (bag : Vec (List Value) Global). bag.items) bags (rows ∷ [])

pub fit-at : (ss : List SourceDecl) (i : ℕ) (s : SourceDecl)
    (bags more : List (Vec (List Value) Global)) (rows : Vec (List Value) Global) → i < length ss
    → s ≡ get_or ss i s → more ≡ bags ++ rows ∷ [] → BagsFit (bag_lists bags) (schemas (take i ss))
    → All (λ (row : List Value). Fits row s.schema) rows.items
    → BagsFit (bag_lists more) (schemas (take (i + 1) ss))
fit-at ss i s bags more rows within is grown fit one =
    subst (λ (l : List (List (List Value))). BagsFit l (schemas (take (i + 1) ss)))
    (sym (bag_lists-more bags more rows grown))
    (subst (λ (l : List SourceDecl). BagsFit (bag_lists bags ++ rows.items ∷ []) (schemas l))
    (sym (prefix-more ss i s within is)) (fit-more (bag_lists bags) (take i ss) rows.items s fit
    one))

-- the items of sources, and the rows of them that are valid
abbrev pub AreBags : Names → List SourceDecl → ℕ → List (Vec (List Value) Global) → Type 0
AreBags files ss t bags = (items : List (List Item)) × (whole_items files ss ≡ Ok items)
    × (bag_lists bags ≡ bags_at ss items t)

pub are-at : (files : Names) (ss : List SourceDecl) (i : ℕ) (s : SourceDecl) (t : ℕ)
    (bags more : List (Vec (List Value) Global)) (rows : Vec (List Value) Global) → i < length ss
    → s ≡ get_or ss i s → more ≡ bags ++ rows ∷ [] → AreBags files (take i ss) t bags
    → (last : List Item) × (source_items files s ≡ Ok last) ×
    (rows.items ≡ in_window s.window last t) → AreBags files (take (i + 1) ss) t more
are-at files ss i s t bags more rows within is grown before one =
    subst (λ (l : List SourceDecl). AreBags files l t more) (sym (prefix-more ss i s within is)) (
      before.0 ++ one.0 ∷ [],
      whole-more files (take i ss) s before.0 one.0 before.1 one.1,
      bag_lists-more bags more rows grown
          ∙ ap (λ (l : List (List (List Value))). l ++ rows.items ∷ []) before.2
          ∙ ap (λ (l : List (List Value)). bags_at (take i ss) before.0 t ++ l ∷ []) one.2
          ∙ sym (bags-more files (take i ss) s before.0 one.0 t before.1),
    )
