-- What the calls do, for every query, all items that the run will have taken, and all that it is
-- asked for: nothing of these is known while the run goes on.
use Rattle.std.specs.Prelude.{◌≡◌, ℕ, ◌≤◌, ◌<◌, List, [], ◌∷◌, ◌++◌, Bool}
use Rattle.std.specs.List.{All}
use Rattle.pipes_time.specs.Interval.{horizon, closed, IsInterval}
use Rattle.pipes_tuple.specs.Bag.{SameBag}
use Rattle.pipes_stream.specs.declared.message.Message.{Message}
use Rattle.pipes_stream.specs.Lawful.{Lists, with_message}
use Rattle.pipes_window.specs.declared.item.Item.{Item}
use Rattle.pipes_query.specs.declared.query.Query.{Query}
use Rattle.pipes_output.specs.declared.entry.Entry.{Entry}
use Rattle.pipes_output.specs.Lines.{IsEntry}
use Rattle.pipes_semantics.specs.Answer.{answer, schemas_of}
use Rattle.pipes_semantics.specs.Written.{results, written_snapshot}
use Rattle.pipes_semantics.specs.Right.{Right}
use Rattle.pipes_written.specs.Made.{last_entry}
use Rattle.pipes_derivation.specs.declared.derivation.Derivation.{Derivation}
use Rattle.pipes_told.specs.Asks.{Ask, Migrates, Drains, Taken}
use Rattle.pipes_told.specs.Pacing.{GoesOn}
use Rattle.pipes_replies.specs.Leading.{target, ComesTo}
use Rattle.pipes_live.specs.Lives.{IsNext, entries_in}
use Rattle.pipes_course.specs.Given.{HaveGiven}
use Rattle.pipes_course.specs.Writing.{SoFar, EndsWith}
use Rattle.pipes_engine.specs.declared.serving.Serving.{Serving}
use Rattle.pipes_engine.specs.declared.engine.Engine.{Engine}
use Rattle.pipes_engine.specs.Runs.{IsRunning, about, beat_now}

-- these entries were made
abbrev pub MakesEntries : Serving → Serving → List Entry → Type 0
MakesEntries old new more = entries_in new.live.state ≡ entries_in old.live.state ++ more

-- A message came from a source, which may come next. No entry was made.
pub record TakesIn (old new : Serving) (source : ℕ) (m : Message) : Type 0 where
  pub entries : MakesEntries old new []
  pub beat : beat_now new ≡ beat_now old
  pub runs : (query : Query) (items : List (List Item)) (asks later : List (Ask Derivation))
      (by_source : Lists) (entries : List Entry)
      → IsRunning old query items asks later by_source entries
      → IsNext (schemas_of query) by_source source m
      → IsRunning new query items asks later (with_message by_source source m) entries

-- The output came further, and the results among these entries start where it was or later.
pub record Rises (old new : Serving) (more : List Entry) : Type 0 where
  pub beat : beat_now old ≤ beat_now new
  pub starts : All (λ e. IsInterval e.span.start e.span.end × (beat_now old ≤ e.span.start))
      (results more)

-- what a call replies to, with what is known of the inputs then: to nothing, a drain, or a
-- migration
abbrev pub Asking : Type 0
Asking = ℕ → ℕ → List (Ask Derivation)

abbrev pub nothing_asked : Asking
nothing_asked inputs end = []

abbrev pub a_drain : Asking
a_drain inputs end = Drains (Taken inputs end) ∷ []

abbrev pub a_migration : Derivation → Asking
a_migration d inputs end = Migrates d (Taken inputs end) ∷ []

-- All that came is written, each migration was told to be idle and over where it is so, and what
-- was asked for next has its reply: all of that in these entries.
pub record AnswersIn (old new : Serving) (asking : Asking) : Type 0 where
  pub more : List Entry
  pub entries : MakesEntries old new more
  pub runs : (query : Query) (items : List (List Item)) (asks later : List (Ask Derivation))
      (by_source : Lists) (entries : List Entry) (inputs end : ℕ)
      → IsRunning old query items asks (asking inputs end ++ later) by_source entries
      → HaveGiven query.sources items inputs end by_source
      → Rises old new more × IsRunning new query items asks later by_source (entries ++ more)

-- All entries of a run are there, of which this is the last.
pub record IsAllOfRun (query : Query) (items : List (List Item)) (asks : List (Ask Derivation))
    (last : Entry) (entries : List Entry) : Type 0 where
  pub so_far : All IsEntry entries
      → SoFar target (ComesTo (schemas_of query)) (about query items asks) entries
  pub right : Right query items entries
  pub ends : EndsWith last entries

-- The run has come to its end: nothing more is asked for, and all sources have ended.
pub record FinishesIn (old new : Serving) (stopped : Bool) : Type 0 where
  pub more : List Entry
  pub entries : MakesEntries old new more
  pub whole : (query : Query) (items : List (List Item)) (asks : List (Ask Derivation))
      (by_source : Lists) (entries : List Entry) (end : ℕ)
      → IsRunning old query items asks [] by_source entries
      → HaveGiven query.sources items closed end by_source
      → Rises old new more × IsAllOfRun query items asks (last_entry stopped) (entries ++ more)

-- What entries say that were made so far, where the output has come to this heartbeat: no more than
-- a run may have written so far, and their results are the answer below it.
pub record IsSoFar (query : Query) (items : List (List Item)) (asks : List (Ask Derivation))
    (output : ℕ) (entries : List Entry) : Type 0 where
  pub so_far : All IsEntry entries
      → SoFar target (ComesTo (schemas_of query)) (about query items asks) entries
  pub going : GoesOn entries
  pub bounded : output ≤ closed
  pub right : (t : ℕ) → t < output → t < horizon
      → SameBag (written_snapshot entries t) (answer query items t)

-- ---- of an engine

abbrev pub Takes : Engine → Engine → ℕ → Message → Type 0
Takes old new source m = TakesIn old.serving new.serving source m

abbrev pub Answers : Engine → Engine → Asking → Type 0
Answers old new asking = AnswersIn old.serving new.serving asking

abbrev pub Finishes : Engine → Engine → Bool → Type 0
Finishes old new stopped = FinishesIn old.serving new.serving stopped
