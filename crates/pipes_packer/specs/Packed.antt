-- A packer at work.
use Rattle.std.specs.Prelude.{◌≡◌, ℕ, ◌⊎◌, List, [], ◌∷◌, ◌++◌, Bool, false, true, reverse}
use Rattle.std.specs.List.{Contains}
use Rattle.atomic_table.specs.declared.shared.Seat.{Seat}
use Rattle.pipes_stream.specs.declared.Elem.{Elem}
use Rattle.pipes_window.specs.declared.item.Item.{Item}
use Rattle.pipes_window.specs.Windows.{known, spans}
use Rattle.pipes_feed.specs.Released.{released, completed, after_arrival, rest_of}
use Rattle.pipes_split.specs.declared.views.View.{View}
use Rattle.pipes_split.specs.Seats.{IsSameSeat}
use Rattle.pipes_split.specs.Knowledge.{Knowledge, KnowsMore, seat_knows}
use Rattle.pipes_parcel.specs.declared.parcel.Fed.{Fed}
use Rattle.pipes_arrivals.specs.Arriving.{Arriving, HasArrived, HasFinished}
use Rattle.pipes_packer.specs.Packing.{AreCut, ArePacked, ArePackedWhole, TopsAreEnds}

-- its seat, its arrivals, and whether memory was wanting
pub record Packing : Type 0 where
  pub seat : Seat (Unit {0}) View
  pub arriving : Arriving
  pub failed : Bool

-- it stands for these arrivals and these messages
pub record HasPacked (arrivals : List Item) (feds : List Fed) (p : Packing) : Type 0 where
  pub arrived : HasArrived arrivals p.arriving
  pub packed : ArePacked (seat_knows p.seat) p.arriving.slack p.arriving.window.kind arrivals feds
  pub tops : TopsAreEnds (seat_knows p.seat)
      (known p.arriving.window.kind (released p.arriving.slack arrivals))

-- and these arrivals were all
pub record HasPackedAll (arrivals : List Item) (feds : List Fed) (p : Packing) : Type 0 where
  pub finished : HasFinished arrivals p.arriving
  pub packed : ArePackedWhole (seat_knows p.seat) p.arriving.slack p.arriving.window.kind arrivals
      feds
  pub tops : TopsAreEnds (seat_knows p.seat)
      (spans p.arriving.window.kind (completed p.arriving.slack arrivals))

-- What each call keeps.
pub record SamePacker (old new : Packing) : Type 0 where
  pub seat : IsSameSeat old.seat new.seat
  pub grows : KnowsMore (seat_knows old.seat) (seat_knows new.seat)
  pub asked : (i : ℕ) → (seat_knows new.seat).asked i ≡ (seat_knows old.seat).asked i
  pub slack : new.arriving.slack ≡ old.arriving.slack
  pub kind : new.arriving.window.kind ≡ old.arriving.window.kind

-- the messages of one more arrival were appended
pub record Packs (old new : Packing) (arrival : Item) (before after : List Fed) : Type 0 where
  pub failed : new.failed ≡ false
  pub ended : new.arriving.window.ended ≡ old.arriving.window.ended
  pub held : new.arriving.held ≡ rest_of old.arriving.slack (after_arrival arrival old.arriving.held)
  pub sent : (more : List Fed) × (after ≡ before ++ more)
      × ((arrivals : List Item) (feds : List Fed) → HasPacked arrivals feds old
      → HasPacked (arrivals ++ arrival ∷ []) (feds ++ more) new)

-- the messages that are left were appended, and the end
pub record PacksRest (old new : Packing) (before after : List Fed) : Type 0 where
  pub failed : new.failed ≡ false
  pub ended : new.arriving.window.ended ≡ true
  pub sent : (more : List Fed) × (after ≡ before ++ more)
      × ((arrivals : List Item) (feds : List Fed) → HasPacked arrivals feds old
      → HasPackedAll arrivals (feds ++ more) new)

-- Out of memory: nothing was appended, and it takes no more.
pub record PackFails (old new : Packing) (before after : List Fed) : Type 0 where
  pub failed : new.failed ≡ true
  pub ended : new.arriving.window.ended ≡ old.arriving.window.ended
  pub same : after ≡ before

-- ---- for private functions
-- what is known grew by ends of these elements
pub record RaisesEnds (k : Knowledge) (elems : List Elem) (l : Knowledge) : Type 0 where
  pub tops : (epoch : ℕ) → (l.top epoch ≡ k.top epoch)
      ⊎ ((e : Elem) × Contains elems e × (e.span.end ≡ l.top epoch))
  pub asked : (i : ℕ) → l.asked i ≡ k.asked i
  pub grows : KnowsMore k l

-- the elements were cut, and their parts put in
pub record CutsAll (k l : Knowledge) (elems : List Elem) (before after : List Fed) : Type 0 where
  pub feds : List Fed
  pub put : after ≡ before ++ feds
  pub cut : AreCut l elems feds
  pub raises : RaisesEnds k elems l

-- so far: those that are left are in a list, the next one last
pub record CutsSome (k l : Knowledge) (elems left : List Elem) (before after : List Fed)
    : Type 0 where
  pub done : List Elem
  pub split : reverse elems ≡ done ++ reverse left
  pub cuts : CutsAll k l done before after

-- and then this message
pub record CutsThen (k l : Knowledge) (elems : List Elem) (last : Fed) (before after : List Fed)
    : Type 0 where
  pub between : List Fed
  pub cuts : CutsAll k l elems before between
  pub put : after ≡ between ++ last ∷ []

-- a packer with this seat and these arrivals
abbrev pub packing : Seat (Unit {0}) View → Arriving → Bool → Packing
packing seat arriving failed = record { seat = seat; arriving = arriving; failed = failed }
