-- One place of several lists changes.
use Rattle.std.proofs.Common.{◌≡◌, ◌⊎◌, ℕ, ◌≤◌, ◌<◌, ◌+◌, Bool, true, false, cond, eqb, List, []}
use Rattle.std.proofs.Common.{◌∷◌, ◌++◌, length, get_or, set, Option, None, refl, sym, ◌∙◌, ap}
use Rattle.std.proofs.Common.{subst, arith, inl, inr, length-set, map}
use Rattle.std.proofs.lemmas.Bool.Decides.{eqb_tells}
use Rattle.std.proofs.lemmas.List.{get_or-set_same, get_or-set_other, get_or-map, map-set}
use Rattle.std.proofs.lemmas.List.{length-map}
use Rattle.std.proofs.Math.Seq.{map-set_same}
use Rattle.pipes_stream.specs.Lawful.{Lists}
use Rattle.pipes_window.specs.declared.item.Item.{Item}
use Rattle.pipes_query.specs.declared.query.SourceDecl.{SourceDecl}
use Rattle.pipes_intake.specs.declared.intake.Intake.{Intake}
use Rattle.pipes_intake.specs.Giving.{IntakeStands}
use Rattle.pipes_inline.specs.declared.underway.Underway.{Underway}
use Rattle.pipes_inline.specs.Standing.{Start, SourceStands, AllLater, AllNew, GoesOn}

-- this one, or another
pub same-or : (k j : ℕ) → (k ≡ j) ⊎ (k ≡ j → ⊥)
same-or k j = elim (eqb_tells k j) [ inl h ↦ inl h.1 | inr h ↦ inr h.1 ]

-- with this value at one place
abbrev pub at_place : {X : Type 0} → (ℕ → X) → ℕ → X → ℕ → X
at_place f place x k = cond (eqb k place) x (f k)

pub at-same : {X : Type 0} (f : ℕ → X) (place : ℕ) (x : X) → at_place f place x place ≡ x
at-same f place x = elim (eqb_tells place place) [
  | inl h ↦ rw h.0 refl
  | inr h ↦ absurd (h.1 refl)
]

pub at-other : {X : Type 0} (f : ℕ → X) (place : ℕ) (x : X) (k : ℕ) → (k ≡ place → ⊥)
    → at_place f place x k ≡ f k
at-other f place x k n = elim (eqb_tells k place) [
  | inl h ↦ absurd (n h.1)
  | inr h ↦ rw h.0 refl
]

-- one source has moved, and the others stand as before
pub source-moves : (start : Start) (lefts : List (Option (List ℕ))) (faults : List ℕ)
    (intakes : List Intake) (taken taken' : ℕ → List Item) (sent sent' : Lists) (place : ℕ)
    (left : Option (List ℕ)) (count : ℕ) (intake : Intake)
    → ((s : SourceDecl) → IntakeStands (get_or start.query.sources place s)
    (get_or start.lefts place None) left (get_or start.faults place 0) count intake (taken' place)
    (sent' place))
    → ((k : ℕ) → (k ≡ place → ⊥) → (taken' k ≡ taken k) × (sent' k ≡ sent k))
    → place < length lefts → place < length faults → place < length intakes
    → (k : ℕ) → ((k ≡ place → ⊥) → SourceStands start lefts faults intakes taken sent k)
    → SourceStands start (set lefts place left) (set faults place count) (set intakes place intake)
    taken' sent' k
source-moves start lefts faults intakes taken taken' sent sent' place left count intake here others
    l m n k before = λ s d.
    elim (same-or k place) [
      | inl e ↦ subst (λ (j : ℕ). IntakeStands (get_or start.query.sources j s)
          (get_or start.lefts j None) (get_or (set lefts place left) j None)
          (get_or start.faults j 0) (get_or (set faults place count) j 0)
          (get_or (set intakes place intake) j d) (taken' j) (sent' j)) (sym e)
          (rw (
            get_or-set_same lefts place left None l,
            get_or-set_same faults place count 0 m,
            get_or-set_same intakes place intake d n,
          ) (here s))
      | inr e ↦ rw (
        get_or-set_other lefts place k left None e,
        get_or-set_other faults place k count 0 e,
        get_or-set_other intakes place k intake d e,
        (others k e).0,
        (others k e).1,
      ) (before e s d)
    ]

-- a count that has not fallen
pub later-set : (before now : List ℕ) (place count : ℕ) → place < length now
    → get_or now place 0 ≤ count → AllLater before now → AllLater before (set now place count)
later-set before now place count l up later = λ k.
    elim (same-or k place) [
      | inl e ↦ subst (λ (j : ℕ). get_or before j 0 ≤ get_or (set now place count) j 0) (sym e)
          (rw (get_or-set_same now place count 0 l) (omega (arith, later place, up)))
      | inr e ↦ rw (get_or-set_other now place k count 0 e) (later k)
    ]

-- ---- one source of several was called

module _ {S : Type 0} (xs : List S) (i : ℕ) (d x' : S) (l : i < length xs) where
  pub read-at : {X : Type 0} (f : S → X) (y : X) → get_or (map f xs) i y ≡ f (get_or xs i d)
  read-at f y = get_or-map f xs i d y l

  pub keeps-at : {X : Type 0} (f : S → X) (ys : List X) → f x' ≡ f (get_or xs i d)
      → map f xs ≡ ys → map f (set xs i x') ≡ ys
  keeps-at f ys same before = map-set_same f xs i x' d same ∙ before

  pub later-at : (f : S → ℕ) (before : List ℕ) → f (get_or xs i d) ≤ f x'
      → AllLater before (map f xs) → AllLater before (map f (set xs i x'))
  later-at f before up later =
      let e = map-set f xs i x' in
      let at = read-at f 0 in
      let m = length-map xs f in
      subst (λ (ns : List ℕ). AllLater before ns) (sym e)
      (later-set before (map f xs) i (f x') (omega (arith, l, m)) (omega (arith, at, up)) later)

  pub other-at : {X : Type 0} (f : S → X) (y : X) (k : ℕ) → (k ≡ i → ⊥)
      → get_or (map f (set xs i x')) k y ≡ get_or (map f xs) k y
  other-at {X} f y k n = ap (λ (ys : List X). get_or ys k y) (map-set f xs i x')
      ∙ get_or-set_other (map f xs) i k (f x') y n

  pub goes-at : (left : S → Option (List ℕ)) (faults : S → ℕ) (start : Start)
      (now : Option (List ℕ)) (underway : Underway)
      → GoesOn start (set (map left xs) i (left x')) (set (map faults xs) i (faults x')) now
      underway
      → GoesOn start (map left (set xs i x')) (map faults (set xs i x')) now underway
  goes-at left faults start now underway goes =
      subst (λ (ns : List ℕ). GoesOn start (map left (set xs i x')) ns now underway)
      (sym (map-set faults xs i x'))
      (subst (λ (ls : List (Option (List ℕ))). GoesOn start ls
      (set (map faults xs) i (faults x')) now underway) (sym (map-set left xs i x')) goes)

  pub new-at : (left : S → Option (List ℕ)) (faults : S → ℕ) (sources : List SourceDecl)
      (firsts : List (Option (List ℕ))) (befores : List ℕ) (count : ℕ) (intakes : List Intake)
      → AllNew sources firsts (set (map left xs) i (left x')) befores
      (set (map faults xs) i (faults x')) count intakes
      → AllNew sources firsts (map left (set xs i x')) befores (map faults (set xs i x')) count
      intakes
  new-at left faults sources firsts befores count intakes new =
      subst (λ (ns : List ℕ). AllNew sources firsts (map left (set xs i x')) befores ns count
      intakes) (sym (map-set faults xs i x'))
      (subst (λ (ls : List (Option (List ℕ))). AllNew sources firsts ls befores
      (set (map faults xs) i (faults x')) count intakes) (sym (map-set left xs i x')) new)
