-- What a seat knows, and what the calls of a book tell of it.
use Rattle.std.specs.Prelude.{◌≡◌, ◌≢◌, true, Bool, ℕ, ◌+◌, ◌^◌, ◌<◌, ◌≤◌, max, Option, Some, None}
use Rattle.atomic_table.specs.declared.shared.Seat.{Seat}
use Rattle.pipes_time.specs.Interval.{closed}
use Rattle.pipes_split.specs.declared.views.View.{View}
use Rattle.pipes_split.specs.declared.views.Kind.{Kind}
use Rattle.pipes_split.specs.declared.book.Raised.{Raised}
use Rattle.pipes_split.specs.declared.book.Raised.TheVariants.{Free, Cut}
use Rattle.pipes_split.specs.Views.{last_epoch, seat_view, top_of, split_of, has_asked, last_found}
use Rattle.pipes_split.specs.Views.{low}

-- of each epoch the greatest end that the seat registered, 0 at first, and the split time, where
-- the seat knows it; of each halt word whether the seat set it; and whether the seat closes epochs
pub record Knowledge : Type 0 where
  pub top : ℕ → ℕ
  pub split : ℕ → Option ℕ
  pub asked : ℕ → Bool
  pub closes : Bool

abbrev pub knows : View → Knowledge
knows v = record { top = top_of v; split = split_of v; asked = has_asked v; closes = v.closes }

abbrev pub seat_knows : Seat (Unit {0}) View → Knowledge
seat_knows seat = knows (seat_view seat)

-- What is known stays known, and the ends only grow.
pub record KnowsMore (k l : Knowledge) : Type 0 where
  pub tops : (e : ℕ) → k.top e ≤ l.top e
  pub splits : (e t : ℕ) → k.split e ≡ Some t → l.split e ≡ Some t
  pub asked : (i : ℕ) → k.asked i ≡ true → l.asked i ≡ true
  pub closes : l.closes ≡ k.closes

pub record KnowsSame (k l : Knowledge) : Type 0 where
  pub tops : (e : ℕ) → l.top e ≡ k.top e
  pub splits : (e : ℕ) → l.split e ≡ k.split e
  pub asked : (i : ℕ) → l.asked i ≡ k.asked i
  pub closes : l.closes ≡ k.closes

-- The end was registered in the epoch, of which no split time was known.
pub record EndRegistered (k : Knowledge) (e end : ℕ) (l : Knowledge) : Type 0 where
  pub unknown : k.split e ≡ None
  pub top : l.top e ≡ max end (k.top e)
  pub other_tops : (i : ℕ) → i ≢ e → l.top i ≡ k.top i
  pub splits : (i : ℕ) → l.split i ≡ k.split i
  pub asked : (i : ℕ) → l.asked i ≡ k.asked i
  pub grows : KnowsMore k l

-- The split time of the epoch is known from now on, and is the one that was known before, if one
-- was.
pub record SplitLearnt (k : Knowledge) (e t : ℕ) (l : Knowledge) : Type 0 where
  pub known : l.split e ≡ Some t
  pub above : l.top e < t
  pub within : t ≤ closed
  pub early : e < last_epoch
  pub before : (u : ℕ) → k.split e ≡ Some u → u ≡ t
  pub other_splits : (i : ℕ) → i ≢ e → l.split i ≡ k.split i
  pub tops : (i : ℕ) → l.top i ≡ k.top i
  pub asked : (i : ℕ) → l.asked i ≡ k.asked i
  pub grows : KnowsMore k l

-- The epoch was found closed. The seat that closes meets only what it knew.
pub record SplitMet (k : Knowledge) (e t : ℕ) (l : Knowledge) : Type 0 where
  pub closer : k.closes ≡ true → k.split e ≡ Some t
  pub learnt : SplitLearnt k e t l

-- The epoch was found open.
pub record FoundOpen (k : Knowledge) (e : ℕ) (l : Knowledge) : Type 0 where
  pub unknown : k.split e ≡ None
  pub same : KnowsSame k l

abbrev pub RaiseTells : Knowledge → ℕ → ℕ → Raised → Knowledge → Type 0
RaiseTells k e end Free l = EndRegistered k e end l
RaiseTells k e end (Cut t) l = SplitMet k e t l

abbrev pub LookTells : Knowledge → ℕ → Option ℕ → Knowledge → Type 0
LookTells k e None l = FoundOpen k e l
LookTells k e (Some t) l = SplitMet k e t l

-- The halt word was set by this seat.
pub record HaltAsked (k : Knowledge) (i : ℕ) (l : Knowledge) : Type 0 where
  pub asked : l.asked i ≡ true
  pub others : (j : ℕ) → j ≢ i → l.asked j ≡ k.asked j
  pub tops : (e : ℕ) → l.top e ≡ k.top e
  pub splits : (e : ℕ) → l.split e ≡ k.split e
  pub grows : KnowsMore k l

-- each split time that the first knows is known to the second
abbrev pub SplitsShared : Knowledge → Knowledge → Type 0
SplitsShared k l = (e t : ℕ) → e ≤ last_epoch → k.split e ≡ Some t → l.split e ≡ Some t

-- each end that the first registered lies below the split time that the second knows
abbrev pub EndsBelowSplits : Knowledge → Knowledge → Type 0
EndsBelowSplits k l = (e t : ℕ) → e ≤ last_epoch → l.split e ≡ Some t → k.top e < t

-- ---- steps
-- the view is one step further, of this kind, at this epoch or halt word
pub record MadeStep (k : Kind) (n : ℕ) (v w : View) : Type 0 where
  pub steps : w.steps ≡ v.steps + 1
  pub kind : w.last.kind ≡ k
  pub number : w.last.number ≡ n

-- The last step found its epoch open, or closed with this split time, which is one more than the
-- greatest end that was registered there.
abbrev pub WasOpen : View → Type 0
WasOpen w = last_found w < 2 ^ 63

abbrev pub WasClosed : View → ℕ → Type 0
WasClosed w t = (2 ^ 63 ≤ last_found w) × (t ≡ low (last_found w) + 1)

-- the answer is what the step found
abbrev pub RaiseFound : View → Raised → Type 0
RaiseFound w Free = WasOpen w
RaiseFound w (Cut t) = WasClosed w t

abbrev pub LookFound : View → Option ℕ → Type 0
LookFound w None = WasOpen w
LookFound w (Some t) = WasClosed w t
