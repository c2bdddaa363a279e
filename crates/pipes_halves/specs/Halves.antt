-- A source's list on both sides of a split.
use Rattle.std.specs.Prelude.{◌≡◌, ℕ, ◌≤◌, ◌<◌, max, nat_lt, Bool, true, false, List, [], ◌∷◌, ◌++◌}
use Rattle.std.specs.Prelude.{if◌then◌else◌, Option, Some, None}
use Rattle.std.specs.List.{All}
use Rattle.pipes_time.specs.Interval.{closed, IsInterval}
use Rattle.pipes_tuple.specs.Bag.{SameBag}
use Rattle.pipes_stream.specs.declared.Elem.{Elem}
use Rattle.pipes_stream.specs.declared.message.Message.{Message}
use Rattle.pipes_stream.specs.declared.message.Message.TheVariants as message
use Rattle.pipes_stream.specs.Snapshot.{snapshot}
use Rattle.pipes_stream.specs.Lists.{CanFollow, run, start_of_list, Valid, beat, HasEnded, elements}
use Rattle.pipes_split.specs.Cutting.{IsCut}

-- ---- one message

-- a part before the split; where there is none, the source has passed it
abbrev pub low_part : Option Elem → List Message
low_part (Some part) = message.Elem part ∷ []
low_part None = message.End ∷ []

abbrev pub high_part : Option Elem → List Message
high_part (Some part) = message.Elem part ∷ []
high_part None = []

-- the parts are intervals, where they are there
abbrev pub ArePart : Option Elem → Type 0
ArePart None = Unit {0}
ArePart (Some part) = IsInterval part.span.start part.span.end

-- the element is cut at the split
pub record IsCutThere (split : ℕ) (e : Elem) (below from : List Message) : Type 0 where
  pub first : Option Elem
  pub second : Option Elem
  pub cut : IsCut e split first second
  pub intervals : ArePart first × ArePart second
  pub below_is : below ≡ low_part first
  pub from_is : from ≡ high_part second

-- these messages stand for this one before the split, and these from it on
abbrev pub IsHalved : ℕ → Message → List Message → List Message → Type 0
IsHalved split (message.Elem e) below from = IsCutThere split e below from
IsHalved split (message.Beat at) below from =
    (below ≡ (if nat_lt at split then message.Beat at else message.End) ∷ [])
    × (from ≡ message.Beat (max at split) ∷ [])
IsHalved split message.End below from = (below ≡ message.End ∷ []) × (from ≡ message.End ∷ [])

-- ---- what comes first

abbrev pub low_opening : ℕ → ℕ → List Message
low_opening beat split = if nat_lt beat split then [] else message.End ∷ []

abbrev pub high_opening : ℕ → Bool → ℕ → List Message
high_opening beat true split = message.End ∷ []
high_opening beat false split = message.Beat (max beat split) ∷ []

-- ---- lists

-- the list with these messages, unless it has ended
abbrev pub grown : List Message → List Message → List Message
grown list more = if (run start_of_list list).ended then list else list ++ more

-- From the instant `base` on, the second list has what the first has below the split, and has come
-- as far as it can: to its end, where the first has passed the split.
pub record StandsBelow (split base : ℕ) (all below : List Message) : Type 0 where
  pub valid : Valid below
  pub beat_is : beat all < split → beat below ≡ beat all
  pub goes : beat all < split → (run start_of_list below).ended ≡ false
  pub past : split ≤ beat all → HasEnded below
  pub same : (t : ℕ) → base ≤ t → t < split
      → SameBag (snapshot (elements below) t) (snapshot (elements all) t)

-- The second list has what the first has from the split on, and has come as far, at least to the
-- split.
pub record StandsFrom (split : ℕ) (all from : List Message) : Type 0 where
  pub valid : Valid from
  pub beat_is : beat from ≡ max (beat all) split
  pub ended_is : (run start_of_list from).ended ≡ (run start_of_list all).ended
  pub same : (t : ℕ) → split ≤ t
      → SameBag (snapshot (elements from) t) (snapshot (elements all) t)

-- the lists on both sides of the split
pub record SplitsUp (split base : ℕ) (all below from : List Message) : Type 0 where
  pub low : StandsBelow split base all below
  pub high : StandsFrom split all from

-- A list that was given whole up to now has this of another one: from the instant on the same is
-- valid, and both have come as far.
pub record IsSoFar (base : ℕ) (all given : List Message) : Type 0 where
  pub valid : Valid given
  pub beat_is : beat given ≡ beat all
  pub ended_is : (run start_of_list given).ended ≡ (run start_of_list all).ended
  pub same : (t : ℕ) → base ≤ t
      → SameBag (snapshot (elements given) t) (snapshot (elements all) t)

pub record SplitLaws : Type 0 where
  -- a list that is split up from here on: no element in it ends above the split
  pub opens : (split base : ℕ) (all given : List Message) → 1 ≤ split → split ≤ closed
      → base ≤ split → Valid all → IsSoFar base all given
      → All (λ e. e.span.end ≤ split) (elements all)
      → SplitsUp split base all (grown given (low_opening (beat all) split))
      (high_opening (beat all) (run start_of_list all).ended split)
  -- one message more
  pub goes_on : (split base : ℕ) (all below from : List Message) (m : Message)
      (lows highs : List Message) → split ≤ closed → Valid all
      → SplitsUp split base all below from
      → CanFollow (run start_of_list all) m → IsHalved split m lows highs
      → SplitsUp split base (all ++ m ∷ []) (grown below lows) (from ++ highs)
  -- once the source has passed the split, the third list stands for the first from there on
  pub joins : (split base : ℕ) (all below from : List Message) → SplitsUp split base all below from
      → split ≤ beat all → IsSoFar split all from
