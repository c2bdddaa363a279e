-- When migrations are told to be idle and over, what a drain tells, and which entry may come next.
use Rattle.std.specs.Prelude.{◌≡◌, ◌⊎◌, ◌↔◌, ℕ, ◌+◌, ◌≤◌, ◌<◌, max, List, [], ◌∷◌, length}
use Rattle.std.specs.Prelude.{true, false, Option, Some, None, IsTrue, ⊤}
use Rattle.pipes_time.specs.Interval.{closed}
use Rattle.pipes_stream.specs.declared.Elem.{Elem}
use Rattle.pipes_output.specs.declared.entry.Entry.{Entry}
use Rattle.pipes_output.specs.declared.entry.Entry.TheVariants as entry
use Rattle.pipes_semantics.specs.Written.{EndsRun}
use Rattle.pipes_box.specs.Prompt.{floors}
use Rattle.pipes_told.specs.Asks.{Inputs, Taken, Awaited, NextInputs}
use Rattle.pipes_told.specs.Told.{Move, Told, after_entry}
use Rattle.pipes_told.specs.Replies.{Replies}

-- ---- each migration

-- this holds of each migration
abbrev pub EachMove : (Move → Type 0) → List Move → Type 0
EachMove P [] = ⊤
EachMove P (m ∷ ms) = P m × EachMove P ms

-- after a migration is over, no result starts at or below its split
abbrev pub StartsBehind : Elem → Move → Type 0
StartsBehind e m = IsTrue m.over → m.split < e.span.start

-- the last migration has this number, and was not told to be idle
abbrev pub MayBeIdle : List Move → ℕ → Type 0
MayBeIdle [] number = ⊥
MayBeIdle (m ∷ ms) number = (number ≡ length (m ∷ ms)) × (m.idle ≡ false)

-- the last migration has this number, was told to be idle, and not to be over
abbrev pub MayBeOver : List Move → ℕ → Type 0
MayBeOver [] number = ⊥
MayBeOver (m ∷ ms) number = (number ≡ length (m ∷ ms)) × (m.idle ≡ true) × (m.over ≡ false)

-- it was told to be idle and to be over
abbrev pub IsOver : Move → Type 0
IsOver m = (m.idle ≡ true) × (m.over ≡ true)

-- With these heartbeats of the inputs and of the output a migration was told to be idle exactly
-- where that of the inputs has reached its split; and to be over exactly where that of the output
-- is above it too, or the inputs have ended.
pub record IsPaced (inputs output : ℕ) (m : Move) : Type 0 where
  pub idle : IsTrue m.idle ↔ (m.split ≤ inputs)
  pub over : IsTrue m.over ↔ (((m.split ≤ inputs) × (m.split < output)) ⊎ (inputs ≡ closed))

-- a migration was told to be over where the output must have passed its split, or the inputs have
-- ended
abbrev pub IsTimely : ℕ → ℕ → Move → Type 0
IsTimely inputs least m = (m.split < least) ⊎ (inputs ≡ closed) → IsTrue m.over

-- ---- what is known of the inputs

-- a drain tells the heartbeat of the inputs, or in a threaded run one that was awaited at least
abbrev pub TellsInputs : ℕ → Inputs → Type 0
TellsInputs beat (Taken inputs end) = beat ≡ inputs
TellsInputs beat (Awaited low) = low ≤ beat

-- the split lies above every end that the inputs fix, where these are known
abbrev pub SplitsAbove : ℕ → Inputs → Type 0
SplitsAbove split (Taken inputs end) = end < split
SplitsAbove split (Awaited low) = ⊤

-- ---- what an entry is

-- the heartbeat that stands directly before an entry: before a drain its own, else none
abbrev pub beat_before : Entry → Option ℕ
beat_before (entry.Result e) = None
beat_before (entry.Beat beat) = None
beat_before (entry.Accepted number split) = None
beat_before (entry.Refused command why) = None
beat_before (entry.Idle number) = None
beat_before (entry.Over number) = None
beat_before (entry.Drained inputs output) = Some output
beat_before entry.Ended = None
beat_before entry.Stopped = None

-- none of the entries is the last one of a run
abbrev pub GoesOn : List Entry → Type 0
GoesOn [] = ⊤
GoesOn (e ∷ es) = ¬ (EndsRun e) × GoesOn es

-- how steep the steepest of these plans is
abbrev pub steepest : {Plan : Type 0} → (Plan → ℕ) → List Plan → ℕ
steepest steep [] = 0
steepest steep (p ∷ ps) = max (steep p) (steepest steep ps)

-- Parameters: how steep a plan is, and the intervals of all rows of all sources.
module _ {Plan Derivation : Type 0} (steep : Plan → ℕ) (spans : List Elem) where
  -- What the heartbeat of the output must have reached where that of the inputs is this one: its
  -- floor, a turn for each group and difference on a path of a plan so far, and one more.
  abbrev pub least_output : Told Plan Derivation → ℕ → ℕ
  least_output told inputs = floors (steepest steep (told.plan ∷ told.earlier) + 1) inputs spans

  -- in an inline run every migration is timely at the reply to a migrate command
  abbrev pub AreTimely : Told Plan Derivation → Inputs → Type 0
  AreTimely told (Taken inputs end) =
      EachMove (IsTimely inputs (least_output told inputs)) told.moves
  AreTimely told (Awaited low) = ⊤

  -- what a drain may tell
  pub record IsDrain (told : Told Plan Derivation) (inputs output : ℕ) : Type 0 where
    pub tells : NextInputs (TellsInputs inputs) told.asks
    pub reached : least_output told inputs ≤ output
    pub moves : EachMove (IsPaced inputs output) told.moves

  -- the entry comes when it may, by the migrations and the inputs
  abbrev pub Paced : Told Plan Derivation → Entry → Type 0
  Paced told (entry.Result e) = EachMove (StartsBehind e) told.moves
  Paced told (entry.Beat beat) = ⊤
  Paced told (entry.Accepted number split) =
      NextInputs (λ inputs. SplitsAbove split inputs × AreTimely told inputs) told.asks
  Paced told (entry.Refused command why) = NextInputs (AreTimely told) told.asks
  Paced told (entry.Idle number) = MayBeIdle told.moves number
  Paced told (entry.Over number) = MayBeOver told.moves number
  Paced told (entry.Drained inputs output) = IsDrain told inputs output
  Paced told entry.Ended = EachMove IsOver told.moves
  Paced told entry.Stopped = EachMove IsOver told.moves

-- One more parameter: what a derivation comes to from a plan.
module _ {Plan Derivation : Type 0} (ComesTo : Plan → Derivation → Option ℕ → Type 0)
    (steep : Plan → ℕ) (spans : List Elem) where
  -- an entry that may be written next
  pub record MayFollow (told : Told Plan Derivation) (e : Entry) : Type 0 where
    pub going : told.ended ≡ false
    pub due : told.beat ≡ beat_before e
    pub replies : Replies ComesTo told e
    pub paced : Paced steep spans told e

-- And another: the plan that a derivation is to lead to.
module _ {Plan Derivation : Type 0} (target : Derivation → Plan)
    (ComesTo : Plan → Derivation → Option ℕ → Type 0) (steep : Plan → ℕ) (spans : List Elem) where
  -- entries that may be written one after another
  abbrev pub Follow : Told Plan Derivation → List Entry → Type 0
  Follow told [] = ⊤
  Follow told (e ∷ es) = MayFollow ComesTo steep spans told e × Follow (after_entry target told e) es
