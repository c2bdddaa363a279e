-- What the calls do.
use Rattle.std.specs.Prelude.{◌≡◌, ◌⊎◌, ◌↔◌, ℕ, ◌+◌, ◌≤◌, ◌<◌, List, [], ◌∷◌, ◌++◌, length}
use Rattle.std.specs.Prelude.{get_or, set}
use Rattle.std.specs.List.{All}
use Rattle.pipes_time.specs.Interval.{closed}
use Rattle.pipes_tuple.specs.declared.value.Kind.{Kind}
use Rattle.pipes_stream.specs.declared.Elem.{Elem}
use Rattle.pipes_stream.specs.declared.message.Message.{Message}
use Rattle.pipes_stream.specs.Lists.{Valid, elements, after}
use Rattle.pipes_stream.specs.Lawful.{Lists, with_message, no_messages}
use Rattle.pipes_plan.specs.declared.plan.Plan.{Plan}
use Rattle.pipes_plan.specs.PlanKinds.{IsTyped}
use Rattle.pipes_output.specs.declared.entry.Entry.{Entry}
use Rattle.pipes_node.specs.Passing.{MayPass}
use Rattle.pipes_box.specs.Prompt.{floors}
use Rattle.pipes_works.specs.Sources.{Reads, AllReached, AllWithin}
use Rattle.pipes_works.specs.Standing.{WorksStand}
use Rattle.pipes_written.specs.Written.{results_of}
use Rattle.pipes_told.specs.Pacing.{steepest}
use Rattle.pipes_told.specs.Steep.{steep}
use Rattle.pipes_standing.specs.declared.standing.Standing.{Standing}
use Rattle.pipes_standing.specs.Calms.{Rows, AnswerAlike, AllFed, AllEndBy, Advances, Calm}
use Rattle.pipes_standing.specs.Calms.{IsUpToDate}
use Rattle.pipes_moving.specs.declared.moving.Moving.{Moving as Between}
use Rattle.pipes_moving.specs.declared.next.Next.{Next}
use Rattle.pipes_moving.specs.Moves.{IsMoving, split_of, first_of}
use Rattle.pipes_moving.specs.Steps.{TakesOld, TakesFresh}
use Rattle.pipes_moving.specs.Steps.{Begins as BeginsMoving}
use Rattle.pipes_live.specs.declared.source.Source.{Source}
use Rattle.pipes_live.specs.declared.state.State.{State}
use Rattle.pipes_live.specs.declared.state.State.TheVariants as state
use Rattle.pipes_live.specs.declared.live.Live.{Live}
use Rattle.pipes_live.specs.Lives.{AtWork, Serves, IsNext, ReadAlike, IsSettledIn, IsAlone}
use Rattle.pipes_live.specs.Lives.{AreSources, IsGiven, AreGiven}
use Rattle.pipes_live.specs.Lives.{beat_in, entries_in, count_in, held_before}

-- these entries were made
abbrev pub MakesIn : State → State → List Entry → Type 0
MakesIn old new more = entries_in new ≡ entries_in old ++ more

abbrev pub MakesEntries : Live → Live → List Entry → Type 0
MakesEntries old new more = MakesIn old.state new.state more

-- Whether one plan is replaced, and how many sources there are, is as before.
pub record StaysIn (old new : State) : Type 0 where
  pub count : count_in new ≡ count_in old
  pub alone : IsAlone old ↔ IsAlone new

pub record Stays (old new : Live) : Type 0 where
  pub count : length new.sources.items ≡ length old.sources.items
  pub alone : IsAlone old.state ↔ IsAlone new.state
  pub split : new.split ≡ old.split

-- ---- messages

-- the old plan was given this part of a message, or nothing
abbrev pub GivesBelow : Between → Between → ℕ → List Message → Type 0
GivesBelow old new source [] = new ≡ old
GivesBelow old new source (m ∷ ms) = TakesOld old new source m

abbrev pub GivesFrom : Between → Between → ℕ → List Message → Type 0
GivesFrom old new source [] = new ≡ old
GivesFrom old new source (m ∷ ms) = TakesFresh old new source m

-- both plans were given parts of a message, one after the other
pub record GivesBoth (old new : Between) (source : ℕ) (lows highs : List Message) : Type 0 where
  pub between : Between
  pub below : GivesBelow old between source lows
  pub from : GivesFrom between new source highs

-- The plans at work took a message of a source that may come next.
pub record TakesNext (old new : State) (source : ℕ) (m : Message) : Type 0 where
  pub entries : MakesIn old new []
  pub beat : beat_in new ≡ beat_in old
  pub holds : (schemas : List (List Kind)) (query plan : Plan) (earlier : List Plan)
      (rows : Rows) (split : ℕ) (by_source : Lists) (entries : List Entry)
      → AtWork old schemas query plan earlier rows split by_source entries
      → ((s : ℕ) → Valid (by_source s)) → IsNext schemas by_source source m
      → AtWork new schemas query plan earlier rows split (with_message by_source source m) entries

-- the source's watch and schema let the message come next
abbrev pub MayCome : Live → ℕ → Message → Type 0
MayCome l source m = (d : Source) → MayPass (get_or l.sources.items source d).schema
    (get_or l.sources.items source d).watch m

-- The watch of the source moved past the message; nothing else changed.
pub record Noted (old new : Live) (source : ℕ) (m : Message) : Type 0 where
  pub state : new.state ≡ old.state
  pub sources : (d : Source) → new.sources.items ≡ set old.sources.items source (record {
    watch = after (get_or old.sources.items source d).watch m;
    schema = (get_or old.sources.items source d).schema;
  })
  pub split : new.split ≡ old.split

-- A message came from a source. It was taken in where it may come next, and else passed over.
pub record Takes (old new : Live) (source : ℕ) (m : Message) : Type 0 where
  pub entries : MakesEntries old new []
  pub beat : beat_in new.state ≡ beat_in old.state
  pub taken_in : (schemas : List (List Kind)) (query plan : Plan) (earlier : List Plan)
      (rows : Rows) (by_source : Lists) (entries : List Entry)
      → Serves old schemas query plan earlier rows by_source entries
      → IsNext schemas by_source source m
      → Serves new schemas query plan earlier rows (with_message by_source source m) entries
  pub passed_over : (schemas : List (List Kind)) (query plan : Plan) (earlier : List Plan)
      (rows : Rows) (by_source : Lists) (entries : List Entry)
      → Serves old schemas query plan earlier rows by_source entries
      → (IsNext schemas by_source source m → ⊥) → new ≡ old

-- ---- entries

-- What came to the tops was written, in order.
pub record SettlesIn (old new : State) : Type 0 where
  pub sent : List Message
  pub entries : MakesIn old new (results_of sent)
  pub settled : IsSettledIn new
  pub advances : (schemas : List (List Kind)) (query plan : Plan) (earlier : List Plan)
      (rows : Rows) (split : ℕ) (by_source : Lists) (entries : List Entry)
      → AtWork old schemas query plan earlier rows split by_source entries
      → Advances (beat_in old) (beat_in new) sent
  pub holds : (schemas : List (List Kind)) (query plan : Plan) (earlier : List Plan)
      (rows : Rows) (split : ℕ) (by_source : Lists) (entries : List Entry)
      → AtWork old schemas query plan earlier rows split by_source entries
      → AllFed schemas plan rows 0 by_source
      → AtWork new schemas query plan earlier rows split by_source (entries ++ results_of sent)

pub record Settles (old new : Live) : Type 0 where
  -- what the output took
  pub sent : List Message
  pub entries : MakesEntries old new (results_of sent)
  pub settled : IsSettledIn new.state
  pub advances : (schemas : List (List Kind)) (query plan : Plan) (earlier : List Plan)
      (rows : Rows) (by_source : Lists) (entries : List Entry)
      → Serves old schemas query plan earlier rows by_source entries
      → Advances (beat_in old.state) (beat_in new.state) sent
  -- where each source that the plan reads gave what is valid, as far as it has come
  pub holds : (schemas : List (List Kind)) (query plan : Plan) (earlier : List Plan)
      (rows : Rows) (by_source : Lists) (entries : List Entry)
      → Serves old schemas query plan earlier rows by_source entries
      → AllFed schemas plan rows 0 by_source
      → Serves new schemas query plan earlier rows by_source (entries ++ results_of sent)

-- These entries were made, which are no results, and nothing else changed.
pub record TellsIn (old new : State) (more : List Entry) : Type 0 where
  pub entries : MakesIn old new more
  pub beat : beat_in new ≡ beat_in old
  pub settled : IsSettledIn old → IsSettledIn new
  pub holds : (schemas : List (List Kind)) (query plan : Plan) (earlier : List Plan)
      (rows : Rows) (split : ℕ) (by_source : Lists) (entries : List Entry)
      → AtWork old schemas query plan earlier rows split by_source entries
      → AtWork new schemas query plan earlier rows split by_source (entries ++ more)

pub record Tells (old new : Live) (more : List Entry) : Type 0 where
  pub entries : MakesEntries old new more
  pub beat : beat_in new.state ≡ beat_in old.state
  pub settled : IsSettledIn old.state → IsSettledIn new.state
  pub holds : (schemas : List (List Kind)) (query plan : Plan) (earlier : List Plan)
      (rows : Rows) (by_source : Lists) (entries : List Entry)
      → Serves old schemas query plan earlier rows by_source entries
      → Serves new schemas query plan earlier rows by_source (entries ++ more)

-- The entries that were made were taken, and nothing else changed.
pub record EmptiesIn (old new : State) : Type 0 where
  pub none : entries_in new ≡ []
  pub beat : beat_in new ≡ beat_in old
  pub settled : IsSettledIn old → IsSettledIn new
  pub holds : (schemas : List (List Kind)) (query plan : Plan) (earlier : List Plan)
      (rows : Rows) (split : ℕ) (by_source : Lists) (entries : List Entry)
      → AtWork old schemas query plan earlier rows split by_source entries
      → AtWork new schemas query plan earlier rows split by_source entries

pub record Empties (old new : Live) : Type 0 where
  pub none : entries_in new.state ≡ []
  pub beat : beat_in new.state ≡ beat_in old.state
  pub settled : IsSettledIn old.state → IsSettledIn new.state
  pub holds : (schemas : List (List Kind)) (query plan : Plan) (earlier : List Plan)
      (rows : Rows) (by_source : Lists) (entries : List Entry)
      → Serves old schemas query plan earlier rows by_source entries
      → Serves new schemas query plan earlier rows by_source entries

-- ---- a change of plan

-- each element that a source gave, of those that the plan reads, ends below the instant
abbrev pub AllEndBelow : List (List Kind) → Plan → ℕ → Lists → Type 0
AllEndBelow schemas plan instant by_source = (source : ℕ) → Reads schemas plan source
    → All (λ e. e.span.end < instant) (elements (by_source source))

-- A change may be made at the split: it lies above every end that the sources gave, and not below
-- the split before it.
pub record MaySplit (schemas : List (List Kind)) (plan : Plan) (before split : ℕ)
    (by_source : Lists) : Type 0 where
  pub some : 1 ≤ split
  pub most : split ≤ closed
  pub rises : before ≤ split
  pub above : AllEndBelow schemas plan split by_source

-- another plan that may take the place of one: it reads the same sources and has the same answer
pub record IsLike (schemas : List (List Kind)) (plan after : Plan) (rows : Rows) : Type 0 where
  pub typed : IsTyped after schemas
  pub answers : AnswerAlike schemas plan after rows
  pub reads : ReadAlike schemas plan after

-- The plan that was ready is put beside the one at work, which has come as far as its sources.
pub record BeginsWith (old new : State) (next : Next) (split : ℕ) : Type 0 where
  pub standing : Standing
  pub moving : Between
  pub old_is : old ≡ state.Alone standing
  pub new_is : new ≡ state.Moving moving
  pub begins : BeginsMoving standing next split moving
  pub written : standing.sent.items ≡ []
  pub up_to_date : (schemas : List (List Kind)) (plan : Plan) (rows : Rows) (base : ℕ)
      (given : Lists) (got : List Message) (entries : List Entry)
      → Calm standing schemas plan rows base given got entries
      → IsUpToDate schemas plan given standing.output.beat

-- What the sources of two plans gave can be split up: the old plan was given it up to now, and all
-- of it ends by the split.
pub record CanOpen (m : Between) (schemas : List (List Kind)) (after : Plan) (base : ℕ)
    (given by_source : Lists) (sources : List Source) : Type 0 where
  pub sources_are : AreSources schemas by_source sources
  pub each : (source : ℕ) → Reads schemas after source
      → IsGiven base (by_source source) (given source)
  pub some : 1 ≤ split_of m
  pub ends : AllEndBy schemas after (split_of m) by_source
  pub begun : AllReached schemas after by_source (first_of m)

-- Of the first `count` sources both plans were given what there is so far, and nothing more of the
-- others than the old plan was given before.
pub record Opened (m : Between) (schemas : List (List Kind)) (before after : Plan) (rows : Rows)
    (base : ℕ) (given by_source : Lists) (entries : List Entry) (count : ℕ) : Type 0 where
  pub below : Lists
  pub from : Lists
  pub moving : IsMoving m schemas before after rows base below from entries
  pub each : (source : ℕ) → source < count → Reads schemas after source
      → AreGiven (split_of m) base (first_of m) (by_source source) (below source) (from source)
  pub rest : (source : ℕ) → count ≤ source
      → (below source ≡ given source) × (from source ≡ [])

-- both plans were told how far the first `count` of these sources have come
pub record Opens (old new : Between) (sources : List Source) (split count : ℕ) : Type 0 where
  pub entries : new.output.entries.items ≡ old.output.entries.items
  pub beat : new.output.beat ≡ old.output.beat
  pub seam : new.seam ≡ old.seam
  pub holds : (schemas : List (List Kind)) (before after : Plan) (rows : Rows) (base : ℕ)
      (given by_source : Lists) (entries : List Entry)
      → split_of old ≡ split → CanOpen old schemas after base given by_source sources
      → Opened old schemas before after rows base given by_source entries 0
      → Opened new schemas before after rows base given by_source entries count

abbrev pub OpensIn : State → State → List Source → ℕ → Type 0
OpensIn (state.Moving old) (state.Moving new) sources split =
    Opens old new sources split (length sources)
OpensIn (state.Moving old) (state.Alone new) sources split = ⊥
OpensIn (state.Moving old) state.Gone sources split = ⊥
OpensIn (state.Alone old) new sources split = ⊥
OpensIn state.Gone new sources split = ⊥

-- The plan that was ready began to take the place of the one at work.
pub record Begins (old new : Live) (next : Next) (split : ℕ) : Type 0 where
  pub entries : MakesEntries old new []
  pub beat : beat_in new.state ≡ beat_in old.state
  pub split_is : new.split ≡ split
  pub moving : IsAlone new.state → ⊥
  pub holds : (schemas : List (List Kind)) (query plan after : Plan) (earlier : List Plan)
      (rows : Rows) (by_source : Lists) (entries : List Entry)
      → Serves old schemas query plan earlier rows by_source entries
      → MaySplit schemas plan old.split split by_source
      → IsLike schemas plan after rows → WorksStand next.works schemas after no_messages []
      → Serves new schemas query after (plan ∷ earlier) rows by_source entries

-- Every source that the plan reads has come to the split, and the output above it, or all have come
-- to the end.
pub record HasPassed (schemas : List (List Kind)) (plan : Plan) (split output : ℕ)
    (by_source : Lists) : Type 0 where
  pub reached : AllReached schemas plan by_source split
  pub passed : (split < output) ⊎ AllReached schemas plan by_source closed

-- The old plan was dropped.
pub record EndsIn (old new : State) : Type 0 where
  pub entries : MakesIn old new []
  pub beat : beat_in new ≡ beat_in old
  pub alone : IsAlone new
  pub settled : IsSettledIn new
  pub holds : (schemas : List (List Kind)) (query plan : Plan) (earlier : List Plan)
      (rows : Rows) (split : ℕ) (by_source : Lists) (entries : List Entry)
      → AtWork old schemas query plan earlier rows split by_source entries
      → HasPassed schemas plan split (beat_in old) by_source
      → AtWork new schemas query plan earlier rows split by_source entries

pub record Ends (old new : Live) : Type 0 where
  pub entries : MakesEntries old new []
  pub beat : beat_in new.state ≡ beat_in old.state
  pub alone : IsAlone new.state
  pub settled : IsSettledIn new.state
  pub holds : (schemas : List (List Kind)) (query plan : Plan) (earlier : List Plan)
      (rows : Rows) (by_source : Lists) (entries : List Entry)
      → Serves old schemas query plan earlier rows by_source entries
      → HasPassed schemas plan old.split (beat_in old.state) by_source
      → Serves new schemas query plan earlier rows by_source entries

-- ---- how far it comes

-- What the output has reached once all that came is written: no more than each source that the plan
-- reads, and no less than where the elements that reach there keep it back, a turn for each group
-- and difference on a path of a plan so far, and one more.
pub record ReachesIn (x : State) (schemas : List (List Kind)) (plan : Plan) (earlier : List Plan)
    (split : ℕ) (by_source : Lists) : Type 0 where
  pub below : AllReached schemas plan by_source (beat_in x)
  pub far : (h : ℕ) (es : List Elem) → AllReached schemas plan by_source h
      → AllWithin schemas plan by_source es
      → floors (steepest steep (plan ∷ earlier) + 1) h es ≤ beat_in x
  pub ends : AllReached schemas plan by_source closed → beat_in x ≡ closed
  -- the sources that the plan reads are there
  pub within : (source : ℕ) → Reads schemas plan source → source < count_in x
  -- the plan that is replaced keeps nothing once the sources have come to the split
  pub keeps_none : AllReached schemas plan by_source split → held_before x ≡ 0

-- So it is with the heartbeat of the inputs, the least of all sources.
pub record Reaches (l : Live) (schemas : List (List Kind)) (plan : Plan) (earlier : List Plan)
    (inputs : ℕ) (by_source : Lists) : Type 0 where
  pub below : AllReached schemas plan by_source (beat_in l.state)
  pub within : (source : ℕ) → Reads schemas plan source → source < length l.sources.items
  pub reached : AllReached schemas plan by_source inputs
  pub far : (es : List Elem) → AllWithin schemas plan by_source es
      → floors (steepest steep (plan ∷ earlier) + 1) inputs es ≤ beat_in l.state
  pub ends : inputs ≡ closed → beat_in l.state ≡ closed
  -- the change of plan has passed as soon as it may be told to be over
  pub passes : ((l.split ≤ inputs) × (l.split < beat_in l.state)) ⊎ (inputs ≡ closed)
      → HasPassed schemas plan l.split (beat_in l.state) by_source
  pub keeps_none : l.split ≤ inputs → held_before l.state ≡ 0
