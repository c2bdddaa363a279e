-- A standing query: a plan at work over its sources, and what was written of its answer.
use Rattle.std.specs.Prelude.{◌≡◌, ℕ, ◌≤◌, ◌<◌, List, [], ◌++◌, slice_get, unwrap_or}
use Rattle.std.specs.Prelude.{◌⊎◌}
use Rattle.std.specs.List.{All}
use Rattle.pipes_time.specs.Interval.{horizon, closed}
use Rattle.pipes_tuple.specs.declared.value.Value.{Value}
use Rattle.pipes_tuple.specs.declared.value.Kind.{Kind}
use Rattle.pipes_tuple.specs.Bag.{SameBag}
use Rattle.pipes_stream.specs.declared.Elem.{Elem}
use Rattle.pipes_stream.specs.declared.message.Message.{Message}
use Rattle.pipes_stream.specs.Snapshot.{snapshot}
use Rattle.pipes_stream.specs.Lists.{beat, elements}
use Rattle.pipes_stream.specs.Lawful.{Lists, with_message}
use Rattle.pipes_plan.specs.declared.plan.Plan.{Plan}
use Rattle.pipes_plan.specs.PlanKinds.{IsTyped, plan_kinds}
use Rattle.pipes_plan.specs.Algebra.{alg}
use Rattle.pipes_output.specs.declared.entry.Entry.{Entry}
use Rattle.pipes_semantics.specs.Written.{written_snapshot}
use Rattle.pipes_box.specs.Shapes.{shape_of}
use Rattle.pipes_box.specs.Prompt.{lag_of, floors}
use Rattle.pipes_box.specs.Boxes.{IsStill}
use Rattle.pipes_works.specs.Sources.{Reads, AllReached, AllWithin, AllSourcesEnded}
use Rattle.pipes_works.specs.Standing.{WorksStand, MayCome}
use Rattle.pipes_written.specs.Written.{Answers, IsWritten, results_of}
use Rattle.pipes_standing.specs.declared.standing.Standing.{Standing}

-- For each instant a bag for each source: what its window holds then, over all items of the run.
abbrev pub Rows : Type 0
Rows = ℕ → List (List (List Value))

-- From the instant `base` on, and as far as it has come, each source that the plan reads gave what
-- is valid.
abbrev pub AllFed : List (List Kind) → Plan → Rows → ℕ → Lists → Type 0
AllFed schemas plan rows base by_source = (source t : ℕ) → Reads schemas plan source → base ≤ t
    → t < horizon → t < beat (by_source source)
    → SameBag (snapshot (elements (by_source source)) t) (unwrap_or (slice_get (rows t) source) [])

-- no element of a source that the plan reads ends above the instant
abbrev pub AllEndBy : List (List Kind) → Plan → ℕ → Lists → Type 0
AllEndBy schemas plan instant by_source = (source : ℕ) → Reads schemas plan source
    → All (λ e. e.span.end ≤ instant) (elements (by_source source))

-- the plan's answer at each instant
abbrev pub answer_of : Plan → Rows → Answers
answer_of plan rows t = alg plan (rows t)

-- the kinds of the plan's results
abbrev pub kinds_of : List (List Kind) → Plan → List Kind
kinds_of schemas plan = unwrap_or (plan_kinds plan schemas) []

-- At each instant the two plans have the same answer, and their results are of the same kinds.
pub record AnswerAlike (schemas : List (List Kind)) (one other : Plan) (rows : Rows) : Type 0 where
  pub kinds : kinds_of schemas other ≡ kinds_of schemas one
  pub answers : (t : ℕ) → t < horizon → SameBag (answer_of other rows t) (answer_of one rows t)

-- One plan stands for the query: each source gave this list, this one came to the top, and these
-- entries were written since the start of the run. From the instant `base` on the plan answers
-- alone; before it the results are complete.
pub record Calm (s : Standing) (schemas : List (List Kind)) (plan : Plan) (rows : Rows) (base : ℕ)
    (by_source : Lists) (got : List Message) (entries : List Entry) : Type 0 where
  pub typed : IsTyped plan schemas
  pub works : WorksStand s.works schemas plan by_source got
  -- those of which entries were made
  pub seen : List Message
  pub got_is : got ≡ seen ++ s.sent.items
  pub beat_is : s.output.beat ≡ beat seen
  pub written : IsWritten (kinds_of schemas plan) (answer_of plan rows) s.output.beat entries
  pub based : base ≤ s.output.beat
  pub shown : (t : ℕ) → base ≤ t
      → SameBag (written_snapshot entries t) (snapshot (elements seen) t)

-- all that came is written, and nothing is on its way
pub record IsSettled (s : Standing) : Type 0 where
  pub still : IsStill s.works.plan_box
  pub nothing_sent : s.sent.items ≡ []

-- these entries were made
abbrev pub MakesEntries : Standing → Standing → List Entry → Type 0
MakesEntries old new more = new.output.entries.items ≡ old.output.entries.items ++ more

-- A message came from a source. It was taken in where it may come next, and else passed over.
pub record TakesIn (old new : Standing) (source : ℕ) (m : Message) : Type 0 where
  pub entries : MakesEntries old new []
  pub beat : new.output.beat ≡ old.output.beat
  pub more : List Message
  pub taken_in : MayCome old.works source m → (schemas : List (List Kind)) (plan : Plan)
      (rows : Rows) (base : ℕ) (by_source : Lists) (got : List Message) (entries : List Entry)
      → Calm old schemas plan rows base by_source got entries
      → Calm new schemas plan rows base (with_message by_source source m) (got ++ more) entries
  pub passed_over : (MayCome old.works source m → ⊥) → new ≡ old
  pub may : MayCome old.works source m ⊎ (MayCome old.works source m → ⊥)

-- These entries were made, which are no results, and nothing else changed.
pub record Tells (old new : Standing) (more : List Entry) : Type 0 where
  pub entries : MakesEntries old new more
  pub settled : IsSettled old → IsSettled new
  pub beat : new.output.beat ≡ old.output.beat
  pub holds : (schemas : List (List Kind)) (plan : Plan) (rows : Rows) (base : ℕ)
      (by_source : Lists) (got : List Message) (entries : List Entry)
      → Calm old schemas plan rows base by_source got entries
      → Calm new schemas plan rows base by_source got (entries ++ more)

-- The output came from one heartbeat to another, and what it took starts at the first or later.
pub record Advances (was now : ℕ) (sent : List Message) : Type 0 where
  pub rises : was ≤ now
  pub starts : All (λ e. was ≤ e.span.start) (elements sent)

-- What came to the top was written, in order.
pub record Settles (old new : Standing) : Type 0 where
  -- what came to the top since the last time
  pub sent : List Message
  pub entries : MakesEntries old new (results_of sent)
  pub settled : IsSettled new
  pub holds : (schemas : List (List Kind)) (plan : Plan) (rows : Rows) (base : ℕ)
      (by_source : Lists) (got : List Message) (entries : List Entry)
      → Calm old schemas plan rows base by_source got entries
      → AllFed schemas plan rows base by_source
      → (now : List Message)
      × Calm new schemas plan rows base by_source now (entries ++ results_of sent)
  pub advances : (schemas : List (List Kind)) (plan : Plan) (rows : Rows) (base : ℕ)
      (by_source : Lists) (got : List Message) (entries : List Entry)
      → Calm old schemas plan rows base by_source got entries
      → Advances old.output.beat new.output.beat sent
  -- no result ends above an instant by which all ends that the sources gave
  pub ends : (schemas : List (List Kind)) (plan : Plan) (rows : Rows) (base : ℕ)
      (by_source : Lists) (got : List Message) (entries : List Entry)
      → Calm old schemas plan rows base by_source got entries → (instant : ℕ)
      → AllEndBy schemas plan instant by_source
      → All (λ e. e.span.end ≤ instant) (elements sent)

-- The output has come as far as the sources: it is kept back by no more than the elements that
-- reach there, and not at all where no operator lags; and to the end, once all sources have ended.
pub record IsUpToDate (schemas : List (List Kind)) (plan : Plan) (by_source : Lists) (output : ℕ)
    : Type 0 where
  pub below : AllReached schemas plan by_source output
  pub above : (h : ℕ) (es : List Elem) → AllReached schemas plan by_source h
      → AllWithin schemas plan by_source es
      → floors (lag_of (shape_of schemas plan)) h es ≤ output
  pub prompt : lag_of (shape_of schemas plan) ≡ 0 → (h : ℕ)
      → AllReached schemas plan by_source h → h ≤ output
  pub ends : AllSourcesEnded schemas plan by_source → output ≡ closed
