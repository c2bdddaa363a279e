-- What is kept of what the entries so far told: how many replies and migrations, and where the last
-- migration stands.
use Rattle.std.specs.Prelude.{◌≡◌, ◌⊎◌, ℕ, ◌≤◌, ◌<◌, Bool, true, false, List, [], ◌∷◌, length}
use Rattle.std.specs.Prelude.{Option, Some, None}
use Rattle.std.specs.Bool.{IsTrue}
use Rattle.pipes_time.specs.Interval.{closed}
use Rattle.pipes_output.specs.declared.entry.RefusedWhy.{RefusedWhy}
use Rattle.pipes_output.specs.declared.entry.RefusedWhy.TheVariants as why
use Rattle.pipes_told.specs.Told.{Move, Told, last_split}
use Rattle.pipes_told.specs.Replies.{most_moves}
use Rattle.pipes_told.specs.Pacing.{EachMove, IsOver, IsPaced}
use Rattle.pipes_replies.specs.declared.replies.Replies.{Replies}
use Rattle.pipes_replies.specs.declared.stage.Stage.{Stage}
use Rattle.pipes_replies.specs.declared.stage.Stage.TheVariants.{Calm, Moving}

-- The last migration is in progress: it was told to be idle or not, and where it was, the inputs
-- have reached its split. All before it are over.
pub record IsInProgress (inputs split : ℕ) (idle : Bool) (m : Move) (earlier : List Move) : Type 0
  where
    pub split_is : m.split ≡ split
    pub idle_is : m.idle ≡ idle
    pub going : m.over ≡ false
    pub within : split ≤ closed
    pub reached : IsTrue idle → split ≤ inputs
    pub others : EachMove IsOver earlier

-- where the last migration stands
abbrev pub IsAt : ℕ → Stage → List Move → Type 0
IsAt inputs Calm moves = EachMove IsOver moves
IsAt inputs (Moving split idle) [] = ⊥
IsAt inputs (Moving split idle) (m ∷ ms) = IsInProgress inputs split idle m ms

-- The inputs have reached the split of a migration that is over, and the output has passed it, or
-- both have come to the end.
pub record IsPast (inputs output : ℕ) (m : Move) : Type 0 where
  pub reached : m.split ≤ inputs
  pub passed : (m.split < output) ⊎ ((inputs ≡ closed) × (output ≡ closed))

-- Entries told this, with the inputs and the output at these heartbeats; no drain is half told.
pub record Keeps {P D : Type 0} (r : Replies) (told : Told P D) (inputs output : ℕ) : Type 0 where
  pub going : told.ended ≡ false
  pub due : told.beat ≡ None
  pub commands : told.replies ≡ r.commands
  pub accepted : length told.moves ≡ r.accepted
  pub last : last_split told.moves ≡ r.last
  pub at : IsAt inputs r.stage told.moves
  pub past : EachMove (λ m. IsTrue m.over → IsPast inputs output m) told.moves

-- and each migration was told to be idle and over exactly where it is so
pub record KeepsPaced {P D : Type 0} (r : Replies) (told : Told P D) (inputs output : ℕ) : Type 0
  where
    pub keeps : Keeps r told inputs output
    pub paced : EachMove (IsPaced inputs output) told.moves

-- ---- what stands beside a migration that is asked for

-- one more may be accepted
pub record MayAccept (r : Replies) : Type 0 where
  pub calm : r.stage ≡ Calm
  pub room : r.accepted < most_moves

-- none may be, for this cause, or one may
abbrev pub Beside : Replies → Option RefusedWhy → Type 0
Beside r None = MayAccept r
Beside r (Some (why.NotDerived step)) = ⊥
Beside r (Some (why.Busy split)) = (idle : Bool) × (r.stage ≡ Moving split idle)
Beside r (Some why.Limit) = (r.stage ≡ Calm) × (most_moves ≤ r.accepted)
