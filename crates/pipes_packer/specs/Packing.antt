-- The messages that a source's arrivals become, by what a seat knows.
use Rattle.std.specs.Prelude.{◌≡◌, ℕ, ◌⊎◌, List, [], ◌∷◌, ◌++◌, false}
use Rattle.std.specs.List.{Contains}
use Rattle.pipes_stream.specs.declared.Elem.{Elem}
use Rattle.pipes_window.specs.declared.item.Item.{Item}
use Rattle.pipes_window.specs.declared.kind.WindowKind.{WindowKind}
use Rattle.pipes_window.specs.Windows.{known, spans, window_beat}
use Rattle.pipes_feed.specs.Released.{released, completed}
use Rattle.pipes_split.specs.Knowledge.{Knowledge, KnowsMore}
use Rattle.pipes_parcel.specs.declared.parcel.Parcel.{Parcel}
use Rattle.pipes_parcel.specs.declared.parcel.Fed.{Fed}
use Rattle.pipes_parcel.specs.declared.parcel.Fed.TheVariants.{Beat, End}
use Rattle.pipes_parcel.specs.Feds.{feds_of}
use Rattle.pipes_parcel.specs.Pieces.{ArePieces}

-- the pieces of each of the elements in turn
pub data AreCut (k : Knowledge) : List Elem → List Fed → Type 0 where
  none : AreCut k [] []
  more : (elems : List Elem) (feds : List Fed) (e : Elem) (parts : List Parcel)
      → AreCut k elems feds → ArePieces k 0 e parts
      → AreCut k (elems ++ e ∷ []) (feds ++ feds_of parts)

-- Arrival by arrival the pieces of the elements that it makes known, and then the heartbeat of the
-- window.
pub data ArePacked (k : Knowledge) (slack : ℕ) (kind : WindowKind) : List Item → List Fed → Type 0
  where
    none : ArePacked k slack kind [] []
    more : (arrivals : List Item) (feds : List Fed) (arrival : Item) (elems : List Elem)
        (cut : List Fed) → ArePacked k slack kind arrivals feds
        → known kind (released slack (arrivals ++ arrival ∷ []))
        ≡ known kind (released slack arrivals) ++ elems
        → AreCut k elems cut
        → ArePacked k slack kind (arrivals ++ arrival ∷ [])
        (feds ++ (cut ++ Beat (window_beat kind (released slack (arrivals ++ arrival ∷ [])) false)
        ∷ []))

-- of a source that has ended: then the pieces of the elements that are left, and the end
pub record ArePackedWhole (k : Knowledge) (slack : ℕ) (kind : WindowKind) (arrivals : List Item)
    (feds : List Fed) : Type 0 where
  pub before : List Fed
  pub packed : ArePacked k slack kind arrivals before
  pub elems : List Elem
  pub left : spans kind (completed slack arrivals) ≡ known kind (released slack arrivals) ++ elems
  pub cut : List Fed
  pub pieces : AreCut k elems cut
  pub all : feds ≡ before ++ (cut ++ End ∷ [])

-- each greatest end is 0 or the end of one of the elements
abbrev pub TopsAreEnds : Knowledge → List Elem → Type 0
TopsAreEnds k elems =
    (epoch : ℕ) → (k.top epoch ≡ 0) ⊎ ((e : Elem) × Contains elems e × (e.span.end ≡ k.top epoch))

-- what is packed stays so as more is known
abbrev pub PackedStays : Type 0
PackedStays =
    (k l : Knowledge) (slack : ℕ) (kind : WindowKind) (arrivals : List Item) (feds : List Fed)
    → KnowsMore k l → ArePacked k slack kind arrivals feds → ArePacked l slack kind arrivals feds
