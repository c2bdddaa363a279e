-- What the private steps of a cutter do.
use Rattle.std.specs.Prelude.{◌≡◌, ℕ, ◌≤◌, ◌<◌, ◌⊎◌, Option, Some, None, List}
use Rattle.std.specs.Prelude.{[], ◌∷◌, ◌++◌, map}
use Rattle.std.specs.Option.{option_to_list}
use Rattle.pipes_stream.specs.declared.Elem.{Elem}
use Rattle.pipes_split.specs.Views.{last_epoch}
use Rattle.pipes_split.specs.Knowledge.{Knowledge, KnowsMore}
use Rattle.pipes_parcel.specs.declared.parcel.Parcel.{Parcel}
use Rattle.pipes_parcel.specs.declared.parcel.Fed.{Fed}
use Rattle.pipes_parcel.specs.declared.parcel.Fed.TheVariants.{Part}
use Rattle.pipes_parcel.specs.declared.cutter.Rest.{Rest}
use Rattle.pipes_parcel.specs.declared.cutter.Rest.TheVariants.{Registered, Below, Above}
use Rattle.pipes_parcel.specs.Feds.{feds_of}
use Rattle.pipes_parcel.specs.Pieces.{ArePieces, AllClosed, MayStart, RaisesEnd, parcel}
use Rattle.pipes_parcel.specs.Pieces.{up_to, from_on}

-- an element that starts at `low` or later begins in this epoch
pub record Begins (k : Knowledge) (epoch low : ℕ) : Type 0 where
  pub early : epoch ≤ last_epoch
  pub closed : AllClosed k epoch
  pub start : MayStart k epoch low

-- Splits may have been met, and no end was raised.
abbrev pub RaisesNone : Knowledge → Knowledge → Type 0
RaisesNone k l = (end : ℕ) → RaisesEnd k end l

-- nothing of the element lies below the split, or its part below it was put in
abbrev pub LeavesAbove : ℕ → ℕ → Elem → Elem → List Fed → List Fed → Type 0
LeavesAbove epoch t e rest before now =
    ((t ≤ e.span.start) × (rest ≡ e) × (now ≡ before))
    ⊎ ((e.span.start < t) × (t < e.span.end) × (rest ≡ from_on t e)
    × (now ≡ before ++ Part (parcel epoch (up_to t e)) ∷ []))

-- the part, where there is one, as a message
abbrev pub feds_of_part : ℕ → Option Elem → List Fed
feds_of_part epoch part = map (λ e. Part (parcel epoch e)) (option_to_list part)

-- the part of the element below the split of a closed epoch was put in
abbrev pub PutsBelow : ℕ → ℕ → Elem → Rest → List Fed → List Fed → Type 0
PutsBelow epoch t e Registered before now = ⊥
PutsBelow epoch t e Below before now =
    (e.span.end ≤ t) × (now ≡ before ++ Part (parcel epoch e) ∷ [])
PutsBelow epoch t e (Above rest) before now = LeavesAbove epoch t e rest before now

-- what an epoch leaves of an element
abbrev pub Leaves : Knowledge → ℕ → Elem → Rest → List Fed → List Fed → Type 0
Leaves k epoch e Registered before now =
    (e.span.end ≤ k.top epoch) × (k.split epoch ≡ None)
    × (now ≡ before ++ Part (parcel epoch e) ∷ [])
Leaves k epoch e Below before now =
    (epoch < last_epoch) × ((t : ℕ) × (k.split epoch ≡ Some t) × (e.span.end ≤ t))
    × (now ≡ before ++ Part (parcel epoch e) ∷ [])
Leaves k epoch e (Above rest) before now =
    (epoch < last_epoch)
    × ((t : ℕ) × (k.split epoch ≡ Some t) × LeavesAbove epoch t e rest before now)

-- The parts so far: with pieces of the rest, from this epoch on, they are pieces of the element.
pub record CutSoFar (k : Knowledge) (first : ℕ) (e : Elem) (epoch : ℕ) (rest : Elem)
    (before now : List Fed) : Type 0 where
  pub parts : List Parcel
  pub put : now ≡ before ++ feds_of parts
  pub pieces : (l : Knowledge) → KnowsMore k l → (more : List Parcel) → ArePieces l epoch rest more
      → ArePieces l first e (parts ++ more)

-- all of the element was put in
pub record CutWhole (k : Knowledge) (first : ℕ) (e : Elem) (before now : List Fed) : Type 0 where
  pub parts : List Parcel
  pub put : now ≡ before ++ feds_of parts
  pub pieces : ArePieces k first e parts
