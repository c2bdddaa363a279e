-- The pieces of an element: parts for epochs, by what a seat knows of ends and splits.
use Rattle.std.specs.Prelude.{◌≡◌, ℕ, ◌+◌, ◌≤◌, ◌<◌, ◌⊎◌, Some, None, List, [], ◌∷◌}
use Rattle.pipes_stream.specs.declared.Elem.{Elem}
use Rattle.pipes_split.specs.Views.{last_epoch}
use Rattle.pipes_split.specs.Knowledge.{Knowledge, KnowsMore}
use Rattle.pipes_parcel.specs.declared.parcel.Parcel.{Parcel}

-- the element up to an instant, and from an instant on
abbrev pub up_to : ℕ → Elem → Elem
up_to t e = record { tuple = e.tuple; span = record { start = e.span.start; end = t } }

abbrev pub from_on : ℕ → Elem → Elem
from_on t e = record { tuple = e.tuple; span = record { start = t; end = e.span.end } }

abbrev pub parcel : ℕ → Elem → Parcel
parcel epoch e = record { epoch = epoch; elem = e }

-- a part of the epoch may start here: not below the split of the epoch before, which is known
abbrev pub MayStart : Knowledge → ℕ → ℕ → Type 0
MayStart k epoch start =
    (before : ℕ) → before + 1 ≡ epoch → (t : ℕ) × (k.split before ≡ Some t) × (t ≤ start)

-- a part of the epoch may end here: the end is registered there, or is at most the split of the
-- epoch, which is known
abbrev pub MayEnd : Knowledge → ℕ → ℕ → Type 0
MayEnd k epoch end = (end ≤ k.top epoch) ⊎ ((t : ℕ) × (k.split epoch ≡ Some t) × (end ≤ t))

-- The parts are the element's, in epochs that rise from the first one on. They follow one another
-- from its start to its end. A part that isn't the last ends at the split of its epoch.
pub data ArePieces (k : Knowledge) : ℕ → Elem → List Parcel → Type 0 where
  whole : (first epoch : ℕ) (e : Elem) → first ≤ epoch → epoch ≤ last_epoch
      → MayStart k epoch e.span.start → MayEnd k epoch e.span.end
      → ArePieces k first e (parcel epoch e ∷ [])
  cut : (first epoch t : ℕ) (e : Elem) (rest : List Parcel) → first ≤ epoch → e.span.start < t
      → t < e.span.end → k.split epoch ≡ Some t → MayStart k epoch e.span.start
      → ArePieces k (epoch + 1) (from_on t e) rest
      → ArePieces k first e (parcel epoch (up_to t e) ∷ rest)

-- each epoch before this one is known to be closed
abbrev pub AllClosed : Knowledge → ℕ → Type 0
AllClosed k epoch = (before : ℕ) → before < epoch → (t : ℕ) × (k.split before ≡ Some t)

-- the end is registered in the first epoch of which no split is known
pub record IsRegistered (k : Knowledge) (end : ℕ) : Type 0 where
  pub epoch : ℕ
  pub early : epoch ≤ last_epoch
  pub below : AllClosed k epoch
  pub open_there : k.split epoch ≡ None
  pub top : end ≤ k.top epoch

-- What is known grows by splits that were met, and by this end in some epochs.
pub record RaisesEnd (k : Knowledge) (end : ℕ) (l : Knowledge) : Type 0 where
  pub tops : (epoch : ℕ) → (l.top epoch ≡ k.top epoch) ⊎ (l.top epoch ≡ end)
  pub asked : (i : ℕ) → l.asked i ≡ k.asked i
  pub grows : KnowsMore k l
