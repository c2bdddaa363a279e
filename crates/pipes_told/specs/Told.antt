-- What the entries of a run tell: its plan now, its migrations, and which commands have a reply.
use Rattle.std.specs.Prelude.{ℕ, ◌+◌, List, [], ◌∷◌, drop, Bool, true, false, if◌then◌else◌, Option}
use Rattle.std.specs.Prelude.{Some, None}
use Rattle.pipes_output.specs.declared.entry.Entry.{Entry}
use Rattle.pipes_output.specs.declared.entry.Entry.TheVariants as entry
use Rattle.pipes_told.specs.Asks.{Ask, Migrates, Drains}

-- an accepted migration: its split, and whether it was told to be idle and to be over
pub record Move : Type 0 where
  pub split : ℕ
  pub idle : Bool
  pub over : Bool

-- What the entries so far tell.
pub record Told (Plan Derivation : Type 0) : Type 0 where
  -- the commands that have no reply yet, in order
  pub asks : List (Ask Derivation)
  -- how many migrate commands have a reply
  pub replies : ℕ
  -- the plan now, and those before it, the last one first
  pub plan : Plan
  pub earlier : List Plan
  -- the accepted migrations, the last one first
  pub moves : List Move
  -- a heartbeat whose drain is still to be told
  pub beat : Option ℕ
  -- whether the last entry of a run was told
  pub ended : Bool

module _ {Plan Derivation : Type 0} where
  -- a run of this plan that has told nothing, and is asked for this
  abbrev pub nothing_told : Plan → List (Ask Derivation) → Told Plan Derivation
  nothing_told plan asks = record {
    asks = asks;
    replies = 0;
    plan = plan;
    earlier = [];
    moves = [];
    beat = None;
    ended = false;
  }

  -- the same with these commands left
  abbrev pub asking : Told Plan Derivation → List (Ask Derivation) → Told Plan Derivation
  asking told asks = record told { asks = asks }

-- ---- migrations

-- one that was just accepted
abbrev pub new_move : ℕ → Move
new_move split = record { split = split; idle = false; over = false }

-- the split of the migration in progress: the last one, where it is not over
abbrev pub in_progress : List Move → Option ℕ
in_progress [] = None
in_progress (m ∷ ms) = if m.over then None else Some m.split

-- the last split, 0 where there is none
abbrev pub last_split : List Move → ℕ
last_split [] = 0
last_split (m ∷ ms) = m.split

-- the last migration is idle now
abbrev pub now_idle : List Move → List Move
now_idle [] = []
now_idle (m ∷ ms) = record m { idle = true } ∷ ms

-- it is over now
abbrev pub now_over : List Move → List Move
now_over [] = []
now_over (m ∷ ms) = record m { over = true } ∷ ms

-- ---- entry by entry

-- The plan that a derivation is to lead to is a parameter.
module _ {Plan Derivation : Type 0} (target : Derivation → Plan) where
  -- the next command was accepted with this split
  abbrev pub accepted : Told Plan Derivation → ℕ → List (Ask Derivation) → Told Plan Derivation
  accepted told split [] = told
  accepted told split (Drains inputs ∷ later) = told
  accepted told split (Migrates derivation inputs ∷ later) = record told {
    asks = later;
    replies = told.replies + 1;
    plan = target derivation;
    earlier = told.plan ∷ told.earlier;
    moves = new_move split ∷ told.moves;
  }

  -- what is told with one entry more
  abbrev pub after_entry : Told Plan Derivation → Entry → Told Plan Derivation
  after_entry told (entry.Result e) = told
  after_entry told (entry.Beat beat) = record told { beat = Some beat }
  after_entry told (entry.Accepted number split) = accepted told split told.asks
  after_entry told (entry.Refused command why) =
      record told { asks = drop 1 told.asks; replies = told.replies + 1 }
  after_entry told (entry.Idle number) = record told { moves = now_idle told.moves }
  after_entry told (entry.Over number) = record told { moves = now_over told.moves }
  after_entry told (entry.Drained inputs output) =
      record told { asks = drop 1 told.asks; beat = None }
  after_entry told entry.Ended = record told { ended = true }
  after_entry told entry.Stopped = record told { ended = true }

  abbrev pub after_entries : Told Plan Derivation → List Entry → Told Plan Derivation
  after_entries told [] = told
  after_entries told (e ∷ es) = after_entries (after_entry told e) es
