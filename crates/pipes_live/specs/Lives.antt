-- A standing query whose plan may be replaced, by one list for each source since the start of the
-- run.
use Rattle.std.specs.Prelude.{◌≡◌, ℕ, ◌≤◌, ◌<◌, List, [], ◌∷◌, map, length, get_or}
use Rattle.std.specs.Prelude.{slice_get, unwrap_or, ⊤}
use Rattle.std.specs.List.{All}
use Rattle.pipes_time.specs.Interval.{closed}
use Rattle.pipes_tuple.specs.declared.value.Kind.{Kind}
use Rattle.pipes_stream.specs.declared.message.Message.{Message}
use Rattle.pipes_stream.specs.Lists.{run, start_of_list, Valid, CanFollow, beat, elements}
use Rattle.pipes_stream.specs.Lawful.{Lists, MessageFits, IsCovered}
use Rattle.pipes_plan.specs.declared.plan.Plan.{Plan}
use Rattle.pipes_output.specs.declared.entry.Entry.{Entry}
use Rattle.pipes_semantics.specs.Written.{results}
use Rattle.pipes_box.specs.Boxes.{all_held}
use Rattle.pipes_works.specs.Sources.{Reads}
use Rattle.pipes_works.specs.Standing.{IsWhole, source_count}
use Rattle.pipes_halves.specs.Halves.{IsSoFar, SplitsUp}
use Rattle.pipes_standing.specs.declared.standing.Standing.{Standing}
use Rattle.pipes_standing.specs.Calms.{Rows, AnswerAlike, AllEndBy, Calm}
use Rattle.pipes_standing.specs.Calms.{IsSettled as IsSettledStanding}
use Rattle.pipes_moving.specs.declared.moving.Moving.{Moving as Between}
use Rattle.pipes_moving.specs.Moves.{IsMoving, IsWholeMoving, split_of, first_of}
use Rattle.pipes_moving.specs.Steps.{IsSettled as IsSettledMoving}
use Rattle.pipes_live.specs.declared.source.Source.{Source}
use Rattle.pipes_live.specs.declared.state.State.{State}
use Rattle.pipes_live.specs.declared.state.State.TheVariants as state
use Rattle.pipes_live.specs.declared.live.Live.{Live}

-- ---- what a plan at work was given of a source's list

-- each element of the second list is a part of one of the first
abbrev pub ArePartsOf : List Message → List Message → Type 0
ArePartsOf all given = All (IsCovered (elements all)) (elements given)

-- A plan that stands alone was given it: from the instant `base` on what is valid is the same.
pub record IsGiven (base : ℕ) (all given : List Message) : Type 0 where
  pub so_far : IsSoFar base all given
  pub parts : ArePartsOf all given

-- Two plans were given it, on both sides of the split; `first` is where the output was when the
-- one began to replace the other.
pub record AreGiven (split base first : ℕ) (all below from : List Message) : Type 0 where
  pub sides : SplitsUp split base all below from
  pub low_parts : ArePartsOf all below
  pub high_parts : ArePartsOf all from
  pub begun : first ≤ beat all

-- both plans read the same sources
abbrev pub ReadAlike : List (List Kind) → Plan → Plan → Type 0
ReadAlike schemas one other = (source : ℕ)
    → (Reads schemas one source → Reads schemas other source)
    × (Reads schemas other source → Reads schemas one source)

-- no result ends above an instant by which all ends that the sources gave
abbrev pub ResultsEnd : List (List Kind) → Plan → Lists → List Entry → Type 0
ResultsEnd schemas plan by_source entries = (instant : ℕ) → AllEndBy schemas plan instant by_source
    → All (λ e. e.span.end ≤ instant) (results entries)

-- ---- the plans at work

-- One plan is at work, since a split or the start of the run.
pub record ServesAlone (s : Standing) (schemas : List (List Kind)) (query plan : Plan) (rows : Rows)
    (split : ℕ) (by_source : Lists) (entries : List Entry) : Type 0 where
  pub base : ℕ
  pub given : Lists
  pub got : List Message
  pub calm : Calm s schemas plan rows base given got entries
  pub based : base ≤ split
  pub closes : split ≤ closed
  pub each : (source : ℕ) → Reads schemas plan source
      → IsGiven base (by_source source) (given source)
  pub alike : AnswerAlike schemas query plan rows
  pub ends : ResultsEnd schemas plan by_source entries

-- One plan is replaced by another at the split. It is the last one of those before.
pub record ServesMoving (m : Between) (schemas : List (List Kind)) (query plan : Plan)
    (earlier : List Plan) (rows : Rows) (split : ℕ) (by_source : Lists) (entries : List Entry)
    : Type 0 where
  pub before : Plan
  pub past : List Plan
  pub earlier_is : earlier ≡ before ∷ past
  pub base : ℕ
  pub below : Lists
  pub from : Lists
  pub moving : IsMoving m schemas before plan rows base below from entries
  pub split_is : split_of m ≡ split
  pub reads : ReadAlike schemas before plan
  pub each : (source : ℕ) → Reads schemas plan source
      → AreGiven (split_of m) base (first_of m) (by_source source) (below source) (from source)
  pub alike : AnswerAlike schemas query before rows
  pub ends : ResultsEnd schemas plan by_source entries

abbrev pub AtWork : State → List (List Kind) → Plan → Plan → List Plan → Rows → ℕ → Lists
    → List Entry → Type 0
AtWork (state.Alone s) schemas query plan earlier rows split by_source entries =
    ServesAlone s schemas query plan rows split by_source entries
AtWork (state.Moving m) schemas query plan earlier rows split by_source entries =
    ServesMoving m schemas query plan earlier rows split by_source entries
AtWork state.Gone schemas query plan earlier rows split by_source entries = ⊥

abbrev pub count_in : State → ℕ
count_in (state.Alone s) = source_count s.works
count_in (state.Moving m) = source_count m.fresh_works
count_in state.Gone = 0

abbrev pub IsWholeIn : State → Type 0
IsWholeIn (state.Alone s) = IsWhole s.works
IsWholeIn (state.Moving m) =
    IsWholeMoving m × (source_count m.old_works ≡ source_count m.fresh_works)
IsWholeIn state.Gone = ⊥

-- all that came is written, and nothing is on its way
abbrev pub IsSettledIn : State → Type 0
IsSettledIn (state.Alone s) = IsSettledStanding s
IsSettledIn (state.Moving m) = IsSettledMoving m
IsSettledIn state.Gone = ⊥

abbrev pub beat_in : State → ℕ
beat_in (state.Alone s) = s.output.beat
beat_in (state.Moving m) = m.output.beat
beat_in state.Gone = 0

-- the entries that were made and not taken yet
abbrev pub entries_in : State → List Entry
entries_in (state.Alone s) = s.output.entries.items
entries_in (state.Moving m) = m.output.entries.items
entries_in state.Gone = []

-- one plan is at work, and none is replaced
abbrev pub IsAlone : State → Type 0
IsAlone (state.Alone s) = ⊤
IsAlone (state.Moving m) = ⊥
IsAlone state.Gone = ⊥

-- how many elements the plan keeps that is replaced
abbrev pub held_before : State → ℕ
held_before (state.Alone s) = 0
held_before (state.Moving m) = all_held m.old_works.plan_box
held_before state.Gone = 0

-- ---- the whole

-- the sources, from which these lists came
pub record AreSources (schemas : List (List Kind)) (by_source : Lists) (sources : List Source)
    : Type 0 where
  pub schemas_are : map (λ (s : Source). s.schema) sources ≡ schemas
  pub watches : (source : ℕ) (d : Source) → source < length sources
      → (get_or sources source d).watch ≡ run start_of_list (by_source source)
  pub valid : (source : ℕ) → Valid (by_source source)

-- The query is served: each source gave this list, and these entries were written, both since the
-- start of the run, whatever was replaced meanwhile. The query's own plan is `query`; the one that
-- is at work now, or takes the place of another, is `plan`; and those before it, the last one
-- first, are `earlier`.
pub record Serves (l : Live) (schemas : List (List Kind)) (query plan : Plan) (earlier : List Plan)
    (rows : Rows) (by_source : Lists) (entries : List Entry) : Type 0 where
  pub at_work : AtWork l.state schemas query plan earlier rows l.split by_source entries
  pub sources : AreSources schemas by_source l.sources.items

abbrev pub IsWholeLive : Live → Type 0
IsWholeLive l = IsWholeIn l.state × (count_in l.state ≡ length l.sources.items)

-- the message may come next from the source: its list stays valid, and the tuple fits
pub record IsNext (schemas : List (List Kind)) (by_source : Lists) (source : ℕ) (m : Message)
    : Type 0 where
  pub follows : CanFollow (run start_of_list (by_source source)) m
  pub fits : MessageFits m (unwrap_or (slice_get schemas source) [])
