-- A plan is replaced: two plans are at work at once, and one list of entries is written.
use Rattle.std.specs.Prelude.{◌≡◌, ◌⊎◌, ℕ, suc, ◌≤◌, ◌<◌, ◌+◌, max, List, []}
use Rattle.std.specs.Prelude.{◌++◌}
use Rattle.std.specs.Prelude.{slice_get, unwrap_or, vec_len, vec_capacity}
use Rattle.std.specs.List.{All}
use Rattle.pipes_time.specs.Interval.{horizon, closed}
use Rattle.pipes_tuple.specs.declared.value.Kind.{Kind}
use Rattle.pipes_tuple.specs.Bag.{SameBag}
use Rattle.pipes_stream.specs.declared.message.Message.{Message}
use Rattle.pipes_stream.specs.Snapshot.{snapshot}
use Rattle.pipes_stream.specs.Lists.{beat, elements}
use Rattle.pipes_stream.specs.Lawful.{Lists}
use Rattle.pipes_coalesce.specs.Stands.{CoalesceStands}
use Rattle.pipes_seam.specs.Seams.{opening_of}
use Rattle.pipes_plan.specs.declared.plan.Plan.{Plan}
use Rattle.pipes_plan.specs.PlanKinds.{IsTyped}
use Rattle.pipes_output.specs.declared.entry.Entry.{Entry}
use Rattle.pipes_semantics.specs.Written.{results, written_snapshot}
use Rattle.pipes_box.specs.Shapes.{shape_of}
use Rattle.pipes_box.specs.Prompt.{lag_of}
use Rattle.pipes_works.specs.Sources.{Reads, AllReached, AllSourcesEnded}
use Rattle.pipes_works.specs.Standing.{WorksStand, IsWhole}
use Rattle.pipes_written.specs.Written.{IsWritten}
use Rattle.pipes_standing.specs.Calms.{Rows, AnswerAlike, AllEndBy, answer_of, kinds_of}
use Rattle.pipes_moving.specs.declared.moving.Moving.{Moving}
use Rattle.pipes_moving.specs.declared.next.Next.{Next}

-- ---- what the two plans are given

-- From the instant `base` on and below the split, as far as it has come, each source that the plan
-- reads gave what is valid.
abbrev pub FedBelow : List (List Kind) → Plan → Rows → ℕ → ℕ → Lists → Type 0
FedBelow schemas plan rows base split by_source = (source t : ℕ) → Reads schemas plan source
    → base ≤ t → t < split → t < horizon → t < beat (by_source source)
    → SameBag (snapshot (elements (by_source source)) t) (unwrap_or (slice_get (rows t) source) [])

-- no element of a source that the plan reads starts below the instant
abbrev pub AllStartFrom : List (List Kind) → Plan → ℕ → Lists → Type 0
AllStartFrom schemas plan low by_source = (source : ℕ) → Reads schemas plan source
    → All (λ e. low ≤ e.span.start) (elements (by_source source))

-- ---- the plans at work

-- The plan is at work, nothing came to it, and there is room for what the old side begins with.
pub record IsReady (n : Next) : Type 0 where
  pub whole : IsWhole n.works
  pub none : n.opening.items ≡ []
  pub room : vec_len n.opening + 2 ≤ vec_capacity n.opening

abbrev pub split_of : Moving → ℕ
split_of m = m.seam.merge.split

-- how far the output was when the plan began to be replaced
abbrev pub first_of : Moving → ℕ
first_of m = m.seam.first

abbrev pub IsWholeMoving : Moving → Type 0
IsWholeMoving m = IsWhole m.old_works × IsWhole m.fresh_works

-- The plan `before` is replaced by the plan `after`. Each source gave the old plan the list in
-- `below`, and the fresh one that in `from`, and these entries were written since the start of the
-- run. Before the split the old plan answers, and from it on the fresh one.
pub record IsMoving (m : Moving) (schemas : List (List Kind)) (before after : Plan) (rows : Rows)
    (base : ℕ) (below from : Lists) (entries : List Entry) : Type 0 where
  pub typed_old : IsTyped before schemas
  pub typed_fresh : IsTyped after schemas
  pub alike : AnswerAlike schemas before after rows
  -- what came to the tops
  pub old_got : List Message
  pub fresh_got : List Message
  pub old : WorksStand m.old_works schemas before below old_got
  pub fresh : WorksStand m.fresh_works schemas after from fresh_got
  pub ends : AllEndBy schemas before (split_of m) below
  pub starts : AllStartFrom schemas after (max (split_of m) (first_of m)) from
  -- at the beginning: what had come to the old top, and what was written
  pub begun : List Message
  pub earlier : List Entry
  pub begun_is : beat begun ≡ first_of m
  pub shown : (t : ℕ) → base ≤ t
      → SameBag (written_snapshot earlier t) (snapshot (elements begun) t)
  pub based : base ≤ first_of m
  pub rises : base ≤ split_of m
  pub closes : split_of m ≤ closed
  pub over_before : All (λ e. e.span.end < split_of m) (results earlier)
  -- what came to the old top since
  pub since : List Message
  pub old_got_is : old_got ≡ begun ++ since
  -- what was given to both sides of the merge, and what it sent
  pub olds : List Message
  pub news : List Message
  pub sent : List Message
  pub merge : CoalesceStands m.seam.merge olds news sent
  pub olds_are : olds ++ m.old_sent.items ≡ opening_of begun ++ since
  pub news_are : news ++ m.fresh_sent.items ≡ fresh_got
  -- all of that is written
  pub written : IsWritten (kinds_of schemas before) (answer_of before rows) m.output.beat entries
  pub results_are : results entries ≡ results earlier ++ elements sent
  pub beat_is : m.output.beat ≡ max (first_of m) (beat sent)

-- ---- how far it comes, and how it ends

-- by how many turns elements may keep the output back: one more than in either plan
abbrev pub lag_between : List (List Kind) → Plan → Plan → ℕ
lag_between schemas before after =
    suc (max (lag_of (shape_of schemas before)) (lag_of (shape_of schemas after)))

-- The output is no further than where it was at the beginning, or than what each source gave the
-- old plan, and than what it gave the fresh one or the split.
pub record IsNoFurther (m : Moving) (schemas : List (List Kind)) (before after : Plan)
    (below from : Lists) : Type 0 where
  pub old : (source : ℕ) → Reads schemas before source
      → m.output.beat ≤ max (first_of m) (beat (below source))
  pub fresh : (source : ℕ) → Reads schemas after source
      → m.output.beat ≤ max (first_of m) (max (split_of m) (beat (from source)))

-- The old plan may be told to be idle once the inputs have come to the split; and the change to be
-- over once the output is above it too, or all has ended.
abbrev pub IsOverAt : ℕ → ℕ → ℕ → Type 0
IsOverAt split output inputs = (split ≤ inputs) × ((split < output) ⊎ (inputs ≡ closed))

-- The old plan's sources have ended, the fresh plan's have come as far as the output was at the
-- beginning, and the output is above the split or these sources have come to the end too.
pub record IsPassed (m : Moving) (schemas : List (List Kind)) (before after : Plan)
    (below from : Lists) : Type 0 where
  pub old_ended : AllSourcesEnded schemas before below
  pub reached : AllReached schemas after from (first_of m)
  pub passed : (split_of m < m.output.beat) ⊎ AllReached schemas after from closed
