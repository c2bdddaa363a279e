-- A query that is run while its plan may be replaced: what its sources gave, what it is asked for,
-- and the entries that were made since the start of the run.
use Rattle.std.specs.Prelude.{◌≡◌, ℕ, ◌≤◌, List, length, true, false}
use Rattle.pipes_time.specs.Interval.{horizon, closed}
use Rattle.pipes_stream.specs.Lawful.{Lists, least}
use Rattle.pipes_plan.specs.declared.plan.Plan.{Plan}
use Rattle.pipes_plan.specs.PlanKinds.{IsTyped}
use Rattle.pipes_plan.specs.Refusals.{Checks}
use Rattle.pipes_window.specs.declared.item.Item.{Item}
use Rattle.pipes_query.specs.declared.query.Query.{Query}
use Rattle.pipes_output.specs.declared.entry.Entry.{Entry}
use Rattle.pipes_semantics.specs.Answer.{bags_at, schemas_of}
use Rattle.pipes_derivation.specs.declared.derivation.Derivation.{Derivation}
use Rattle.pipes_told.specs.Asks.{Ask}
use Rattle.pipes_told.specs.Told.{Told, nothing_told, after_entries}
use Rattle.pipes_told.specs.Pacing.{GoesOn}
use Rattle.pipes_told.specs.Coalesced.{Coalesced}
use Rattle.pipes_replies.specs.Leading.{target, ComesTo}
use Rattle.pipes_replies.specs.Keeping.{Keeps, KeepsPaced}
use Rattle.pipes_replies.specs.declared.stage.Stage.TheVariants.{Calm}
use Rattle.pipes_live.specs.Lives.{Serves, IsWholeLive, IsAlone, beat_in, entries_in}
use Rattle.pipes_course.specs.Job.{About}
use Rattle.pipes_course.specs.Known.{last_end}
use Rattle.pipes_course.specs.Given.{elements_from}
use Rattle.pipes_course.specs.Writing.{FollowFrom}
use Rattle.pipes_engine.specs.declared.serving.Serving.{Serving}
use Rattle.pipes_engine.specs.declared.engine.Engine.{Engine}

-- ---- what a run is about, and what was told

abbrev pub about : Query → List (List Item) → List (Ask Derivation) → About Derivation
about query items asks = record { query = query; items = items; asks = asks }

-- what the entries since the start of the run tell
abbrev pub told_by : Query → List (Ask Derivation) → List Entry → Told Plan Derivation
told_by query asks entries = after_entries target (nothing_told query.plan asks) entries

-- ---- what an engine is made of

-- What holds since it was made, whatever was called.
pub record IsSound (s : Serving) : Type 0 where
  pub live : IsWholeLive s.live
  pub count : length s.live.sources.items ≡ length s.schemas
  pub typed : IsTyped s.plan s.schemas
  pub checks : Checks s.schemas s.plan
  pub some_workers : 1 ≤ s.workers
  pub most_workers : s.workers ≤ 16
  pub end : s.end ≤ horizon
  pub last : s.replies.last ≤ closed

-- No plan is replaced where no migration is in progress, and its split is the last one.
pub record IsInOrder (s : Serving) : Type 0 where
  pub calm : s.replies.stage ≡ Calm → IsAlone s.live.state
  pub split_is : s.live.split ≡ s.replies.last

-- how far the output has come
abbrev pub beat_now : Serving → ℕ
beat_now s = beat_in s.live.state

-- The query is run, which will have taken these items and is asked for `asks` in all, of which
-- `later` have no reply yet. Each source gave this list, and these entries were made, both since
-- the start of the run.
pub record IsRunning (s : Serving) (query : Query) (items : List (List Item))
    (asks later : List (Ask Derivation)) (by_source : Lists) (entries : List Entry) : Type 0 where
  pub schemas_are : s.schemas ≡ schemas_of query
  pub later_are : (told_by query asks entries).asks ≡ later
  pub plan_is : (told_by query asks entries).plan ≡ s.plan
  pub serves : Serves s.live (schemas_of query) query.plan s.plan
      (told_by query asks entries).earlier (bags_at query.sources items) by_source entries
  -- what was told stands for heartbeats at which the inputs and the output were
  pub inputs : ℕ
  pub output : ℕ
  pub inputs_low : inputs ≤ least (length query.sources) by_source
  pub output_low : output ≤ beat_now s
  pub keeps : Keeps s.replies (told_by query asks entries) inputs output
  -- while a migration is in progress, the plan is replaced
  pub moving : (s.replies.stage ≡ Calm → ⊥) → IsAlone s.live.state → ⊥
  pub follow : FollowFrom target (ComesTo (schemas_of query)) (about query items asks) entries
  pub going : GoesOn entries
  pub coalesced : Coalesced entries
  -- the greatest end of what came
  pub end_is : last_end (elements_from 0 query.sources by_source) ≡ s.end

-- and each migration was told to be idle and over exactly where it is so
pub record IsPacedAt (s : Serving) (query : Query) (items : List (List Item))
    (asks later : List (Ask Derivation)) (by_source : Lists) (entries : List Entry) (inputs : ℕ)
    : Type 0 where
  pub running : IsRunning s query items asks later by_source entries
  pub paced : KeepsPaced s.replies (told_by query asks entries) inputs (beat_now s)

-- ---- an engine

abbrev pub IsWholeEngine : Engine → Type 0
IsWholeEngine e = IsSound e.serving × (e.failed ≡ false → IsInOrder e.serving)

-- out of memory nothing is run any more
abbrev pub HasFailed : Engine → Type 0
HasFailed e = e.failed ≡ true

-- how many sources there are, and how many migrate commands had a reply
abbrev pub source_count : Engine → ℕ
source_count e = length e.serving.schemas

abbrev pub commands_of : Engine → ℕ
commands_of e = e.serving.replies.commands

abbrev pub beat_of : Engine → ℕ
beat_of e = beat_now e.serving

-- the entries that were made and not taken yet
abbrev pub entries_of : Engine → List Entry
entries_of e = entries_in e.serving.live.state

-- The engine runs the query so.
abbrev pub Runs : Engine → Query → List (List Item) → List (Ask Derivation) → List (Ask Derivation)
    → Lists → List Entry → Type 0
Runs e query items asks later by_source entries =
    IsRunning e.serving query items asks later by_source entries
