-- The replies to migrate and drain commands: accepted, refused for the first cause, or drained.
use Rattle.std.specs.Prelude.{◌≡◌, ℕ, ◌+◌, ◌≤◌, ◌<◌, [], length, Option, Some, None, ⊤}
use Rattle.pipes_time.specs.Interval.{closed}
use Rattle.pipes_output.specs.declared.entry.Entry.{Entry}
use Rattle.pipes_output.specs.declared.entry.Entry.TheVariants as entry
use Rattle.pipes_output.specs.declared.entry.RefusedWhy.{RefusedWhy}
use Rattle.pipes_output.specs.declared.entry.RefusedWhy.TheVariants as why
use Rattle.pipes_told.specs.Asks.{NextMigrates, NextDrains}
use Rattle.pipes_told.specs.Told.{Told, in_progress, last_split}

-- the most migrations that a run accepts
abbrev pub most_moves : ℕ
most_moves = 1024

-- What a derivation comes to from a plan is a parameter: to the number of its first step that fails
-- (one more than there are, where the last plan is another than its own), or to its plan.
module _ {Plan Derivation : Type 0} (ComesTo : Plan → Derivation → Option ℕ → Type 0) where
  -- A migration by this derivation is accepted: none is in progress, and there are not yet as many
  -- as there may be. It has the next number, and splits never fall.
  pub record AcceptsMove (told : Told Plan Derivation) (derivation : Derivation) (number split : ℕ)
      : Type 0 where
    pub derived : ComesTo told.plan derivation None
    pub alone : in_progress told.moves ≡ None
    pub room : length told.moves < most_moves
    pub next : number ≡ length told.moves + 1
    pub rising : last_split told.moves ≤ split
    pub above : 1 ≤ split
    pub within : split ≤ closed

  -- The cause of a refusal: a step fails; or else a migration is in progress, with this split; or
  -- else there are as many as there may be.
  abbrev pub IsRefusal : Told Plan Derivation → Derivation → RefusedWhy → Type 0
  IsRefusal told derivation (why.NotDerived step) = ComesTo told.plan derivation (Some step)
  IsRefusal told derivation (why.Busy split) =
      ComesTo told.plan derivation None × (in_progress told.moves ≡ Some split)
  IsRefusal told derivation why.Limit =
      ComesTo told.plan derivation None × (in_progress told.moves ≡ None)
      × (most_moves ≤ length told.moves)

  -- a derivation is refused for this, as the migrate command with the next number
  pub record RefusesMove (told : Told Plan Derivation) (derivation : Derivation) (command : ℕ)
      (why : RefusedWhy) : Type 0 where
    pub refused : IsRefusal told derivation why
    pub next : command ≡ told.replies + 1

  -- The entry is the reply to the next command, if it is a reply; and all have one at the end.
  abbrev pub Replies : Told Plan Derivation → Entry → Type 0
  Replies told (entry.Result e) = ⊤
  Replies told (entry.Beat beat) = NextDrains told.asks
  Replies told (entry.Accepted number split) =
      NextMigrates (λ derivation. AcceptsMove told derivation number split) told.asks
  Replies told (entry.Refused command why) =
      NextMigrates (λ derivation. RefusesMove told derivation command why) told.asks
  Replies told (entry.Idle number) = ⊤
  Replies told (entry.Over number) = ⊤
  Replies told (entry.Drained inputs output) = NextDrains told.asks
  Replies told entry.Ended = told.asks ≡ []
  Replies told entry.Stopped = told.asks ≡ []
