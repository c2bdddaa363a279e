-- What the parts of a call do.
use Rattle.std.specs.Prelude.{◌≡◌, ℕ, ◌≤◌, List, [], ◌∷◌, ◌++◌, Bool, IsTrue, false}
use Rattle.pipes_time.specs.Interval.{closed}
use Rattle.pipes_tuple.specs.declared.value.Kind.{Kind}
use Rattle.pipes_stream.specs.Lawful.{Lists}
use Rattle.pipes_plan.specs.declared.plan.Plan.{Plan}
use Rattle.pipes_window.specs.declared.item.Item.{Item}
use Rattle.pipes_query.specs.declared.query.Query.{Query}
use Rattle.pipes_output.specs.declared.entry.Entry.{Entry}
use Rattle.pipes_output.specs.declared.entry.RefusedWhy.{RefusedWhy}
use Rattle.pipes_semantics.specs.Answer.{schemas_of}
use Rattle.pipes_semantics.specs.Written.{results}
use Rattle.pipes_written.specs.Made.{last_entry}
use Rattle.pipes_standing.specs.Calms.{Rows}
use Rattle.pipes_derivation.specs.declared.derivation.Derivation.{Derivation}
use Rattle.pipes_told.specs.Asks.{Ask, Migrates, Taken}
use Rattle.pipes_told.specs.Replies.{IsRefusal}
use Rattle.pipes_replies.specs.Leading.{ComesTo}
use Rattle.pipes_live.specs.declared.live.Live.{Live}
use Rattle.pipes_live.specs.Lives.{Serves, IsAlone, beat_in, entries_in}
use Rattle.pipes_live.specs.Deeds.{HasPassed}
use Rattle.pipes_course.specs.Given.{HaveGiven}
use Rattle.pipes_engine.specs.declared.serving.Serving.{Serving}
use Rattle.pipes_engine.specs.Runs.{IsRunning, IsPacedAt, told_by, beat_now}
use Rattle.pipes_engine.specs.Deeds.{MakesEntries, Rises, Asking, IsAllOfRun}

-- what is known beside the plans at work is as before
pub record SameBeside (old new : Serving) : Type 0 where
  pub schemas : new.schemas ≡ old.schemas
  pub plan : new.plan ≡ old.plan
  pub replies : new.replies ≡ old.replies
  pub end : new.end ≡ old.end

-- ---- what comes to the top, and what is told of a migration

-- All that came is written, and each migration was told to be idle and over where it is so.
pub record SettlesIn (old new : Serving) : Type 0 where
  pub more : List Entry
  pub entries : MakesEntries old new more
  pub runs : (query : Query) (items : List (List Item)) (asks later : List (Ask Derivation))
      (by_source : Lists) (entries : List Entry) (inputs end : ℕ)
      → IsRunning old query items asks later by_source entries
      → HaveGiven query.sources items inputs end by_source
      → Rises old new more
      × IsPacedAt new query items asks later by_source (entries ++ more) inputs

-- Where all that came was written before, what these entries tell is that.
pub record PacesIn (old new : Serving) : Type 0 where
  pub more : List Entry
  pub entries : MakesEntries old new more
  pub none : results more ≡ []
  pub beat : beat_now new ≡ beat_now old
  pub runs : (query : Query) (items : List (List Item)) (asks later : List (Ask Derivation))
      (by_source : Lists) (entries : List Entry) (inputs end : ℕ)
      → IsRunning old query items asks later by_source entries
      → HaveGiven query.sources items inputs end by_source
      → IsPacedAt new query items asks later by_source (entries ++ more) inputs

-- heartbeats at which the inputs and the output may be: where the inputs have come to the end, the
-- output has
abbrev pub MayPace : ℕ → ℕ → Type 0
MayPace inputs output = (inputs ≤ closed) × (inputs ≡ closed → output ≡ closed)

-- The plan that was replaced was dropped, where one was and its migration is over.
pub record DropsOld (old new : Live) (over : Bool) : Type 0 where
  pub sources : new.sources ≡ old.sources
  pub split : new.split ≡ old.split
  pub entries : entries_in new.state ≡ entries_in old.state
  pub beat : beat_in new.state ≡ beat_in old.state
  pub alone : IsTrue over → IsAlone new.state
  pub stays : over ≡ false → new ≡ old
  pub holds : (schemas : List (List Kind)) (query plan : Plan) (earlier : List Plan) (rows : Rows)
      (by_source : Lists) (entries : List Entry)
      → Serves old schemas query plan earlier rows by_source entries
      → (IsTrue over → (IsAlone old.state → ⊥)
      → HasPassed schemas plan old.split (beat_in old.state) by_source)
      → Serves new schemas query plan earlier rows by_source entries

-- ---- replies

-- What was asked for next has its reply, in these entries.
pub record RepliesIn (old new : Serving) (asking : Asking) : Type 0 where
  pub more : List Entry
  pub entries : MakesEntries old new more
  pub none : results more ≡ []
  pub beat : beat_now new ≡ beat_now old
  pub runs : (query : Query) (items : List (List Item)) (asks later : List (Ask Derivation))
      (by_source : Lists) (entries : List Entry) (inputs end : ℕ)
      → IsPacedAt old query items asks (asking inputs end ++ later) by_source entries inputs
      → HaveGiven query.sources items inputs end by_source
      → IsRunning new query items asks later by_source (entries ++ more)

-- The next migrate command was refused for this.
pub record RefusesIn (old new : Serving) (why : RefusedWhy) : Type 0 where
  pub more : List Entry
  pub entries : MakesEntries old new more
  pub none : results more ≡ []
  pub beat : beat_now new ≡ beat_now old
  pub runs : (query : Query) (items : List (List Item)) (d : Derivation)
      (asks later : List (Ask Derivation)) (by_source : Lists) (entries : List Entry)
      (inputs end : ℕ)
      → IsPacedAt old query items asks (Migrates d (Taken inputs end) ∷ later) by_source entries
      inputs
      → HaveGiven query.sources items inputs end by_source
      → IsRefusal (ComesTo (schemas_of query)) (told_by query asks entries) d why
      → IsRunning new query items asks later by_source (entries ++ more)

-- The last entry was told.
pub record EndsIn (old new : Serving) (stopped : Bool) : Type 0 where
  pub more : List Entry
  pub entries : MakesEntries old new more
  pub none : results more ≡ []
  pub beat : beat_now new ≡ beat_now old
  pub whole : (query : Query) (items : List (List Item)) (asks : List (Ask Derivation))
      (by_source : Lists) (entries : List Entry) (end : ℕ)
      → IsPacedAt old query items asks [] by_source entries closed
      → HaveGiven query.sources items closed end by_source
      → IsAllOfRun query items asks (last_entry stopped) (entries ++ more)
