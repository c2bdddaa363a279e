-- What the calls do while a plan is replaced.
use Rattle.std.specs.Prelude.{◌≡◌, ℕ, ◌≤◌, ◌<◌, max, Bool, cond, nat_le, List, [], ◌++◌}
use Rattle.std.specs.Prelude.{◌⊎◌}
use Rattle.std.specs.List.{All}
use Rattle.pipes_time.specs.Interval.{closed}
use Rattle.pipes_tuple.specs.declared.value.Kind.{Kind}
use Rattle.pipes_stream.specs.declared.message.Message.{Message}
use Rattle.pipes_stream.specs.declared.message.Message.TheVariants as message
use Rattle.pipes_stream.specs.Lists.{elements}
use Rattle.pipes_stream.specs.Lawful.{Lists, with_message, no_messages}
use Rattle.pipes_plan.specs.declared.plan.Plan.{Plan}
use Rattle.pipes_plan.specs.PlanKinds.{IsTyped}
use Rattle.pipes_output.specs.declared.entry.Entry.{Entry}
use Rattle.pipes_semantics.specs.Written.{results}
use Rattle.pipes_coalesce.specs.Stands.{EndsBy, StartsFromSplit}
use Rattle.pipes_box.specs.Boxes.{IsStill}
use Rattle.pipes_works.specs.Standing.{WorksStand, WorksOff, MayCome, source_count}
use Rattle.pipes_written.specs.Written.{results_of}
use Rattle.pipes_standing.specs.declared.standing.Standing.{Standing}
use Rattle.pipes_standing.specs.Calms.{Rows, AnswerAlike, AllFed, AllEndBy, Calm}
use Rattle.pipes_standing.specs.Calms.{Advances}
use Rattle.pipes_moving.specs.declared.moving.Moving.{Moving}
use Rattle.pipes_moving.specs.declared.next.Next.{Next}
use Rattle.pipes_moving.specs.Moves.{IsMoving, FedBelow, split_of, first_of}

-- these entries were made
abbrev pub MakesEntries : Moving → Moving → List Entry → Type 0
MakesEntries old new more = new.output.entries.items ≡ old.output.entries.items ++ more

-- each plan has as many sources as before
abbrev pub CountsStay : Moving → Moving → Type 0
CountsStay old new = (source_count new.old_works ≡ source_count old.old_works)
    × (source_count new.fresh_works ≡ source_count old.fresh_works)

-- all that came is written, and nothing is on its way
pub record IsSettled (m : Moving) : Type 0 where
  pub old_still : IsStill m.old_works.plan_box
  pub fresh_still : IsStill m.fresh_works.plan_box
  pub no_olds : m.old_sent.items ≡ []
  pub no_news : m.fresh_sent.items ≡ []

-- a message that may come to the old plan: a part of an element before the split, say
abbrev pub MayComeOld : Moving → ℕ → Message → Type 0
MayComeOld m source message = EndsBy (split_of m) message × MayCome m.old_works source message

-- a message that may come to the fresh plan: a part from the split on, say
abbrev pub MayComeFresh : Moving → ℕ → Message → Type 0
MayComeFresh m source message =
    StartsFromSplit (max (split_of m) (first_of m)) message × MayCome m.fresh_works source message

-- A message came from a source for the old plan. It was taken in where it may come next, and else
-- passed over.
pub record TakesOld (old new : Moving) (source : ℕ) (m : Message) : Type 0 where
  pub entries : MakesEntries old new []
  pub beat : new.output.beat ≡ old.output.beat
  pub taken_in : MayComeOld old source m → (schemas : List (List Kind)) (before after : Plan)
      (rows : Rows) (base : ℕ) (below from : Lists) (entries : List Entry)
      → IsMoving old schemas before after rows base below from entries
      → IsMoving new schemas before after rows base (with_message below source m) from entries
  pub passed_over : (MayComeOld old source m → ⊥) → new ≡ old
  pub may : MayComeOld old source m ⊎ (MayComeOld old source m → ⊥)
  pub seam : new.seam ≡ old.seam

-- A message came from a source for the fresh plan.
pub record TakesFresh (old new : Moving) (source : ℕ) (m : Message) : Type 0 where
  pub entries : MakesEntries old new []
  pub beat : new.output.beat ≡ old.output.beat
  pub taken_in : MayComeFresh old source m → (schemas : List (List Kind)) (before after : Plan)
      (rows : Rows) (base : ℕ) (below from : Lists) (entries : List Entry)
      → IsMoving old schemas before after rows base below from entries
      → IsMoving new schemas before after rows base below (with_message from source m) entries
  pub passed_over : (MayComeFresh old source m → ⊥) → new ≡ old
  pub may : MayComeFresh old source m ⊎ (MayComeFresh old source m → ⊥)
  pub seam : new.seam ≡ old.seam

-- what the old plan is told of a heartbeat of a source, and what the fresh one
abbrev pub beat_below : ℕ → ℕ → Message
beat_below split at = cond (nat_le split at) message.End (message.Beat at)

abbrev pub beat_from : ℕ → ℕ → Bool → Message
beat_from split at ended = cond ended message.End (message.Beat (max split at))

-- both plans were told a heartbeat of a source, one after the other
pub record TakesBeat (old new : Moving) (source at : ℕ) (ended : Bool) : Type 0 where
  pub between : Moving
  pub below : TakesOld old between source (beat_below (split_of old) at)
  pub from : TakesFresh between new source (beat_from (split_of old) at ended)

-- These entries were made, which are no results, and nothing else changed.
pub record Tells (old new : Moving) (more : List Entry) : Type 0 where
  pub entries : MakesEntries old new more
  pub settled : IsSettled old → IsSettled new
  pub seam : new.seam ≡ old.seam
  pub beat : new.output.beat ≡ old.output.beat
  pub holds : (schemas : List (List Kind)) (before after : Plan) (rows : Rows) (base : ℕ)
      (below from : Lists) (entries : List Entry)
      → IsMoving old schemas before after rows base below from entries
      → IsMoving new schemas before after rows base below from (entries ++ more)

-- Both plans were worked off; nothing is written yet.
pub record WorksBothOff (old new : Moving) : Type 0 where
  pub old_works : WorksOff old.old_works new.old_works old.old_sent.items new.old_sent.items
  pub fresh_works : WorksOff old.fresh_works new.fresh_works
      old.fresh_sent.items new.fresh_sent.items
  pub old_still : IsStill new.old_works.plan_box
  pub fresh_still : IsStill new.fresh_works.plan_box
  pub seam : new.seam ≡ old.seam
  pub output : new.output ≡ old.output

-- What came to the tops was written, merged at the split and in order.
pub record Settles (old new : Moving) : Type 0 where
  -- what the output took of it
  pub sent : List Message
  pub entries : MakesEntries old new (results_of sent)
  pub settled : IsSettled new
  pub split : split_of new ≡ split_of old
  pub first : first_of new ≡ first_of old
  pub holds : (schemas : List (List Kind)) (before after : Plan) (rows : Rows) (base : ℕ)
      (below from : Lists) (entries : List Entry)
      → IsMoving old schemas before after rows base below from entries
      → FedBelow schemas before rows base (split_of old) below
      → AllFed schemas after rows (split_of old) from
      → IsMoving new schemas before after rows base below from (entries ++ results_of sent)
  pub advances : (schemas : List (List Kind)) (before after : Plan) (rows : Rows) (base : ℕ)
      (below from : Lists) (entries : List Entry)
      → IsMoving old schemas before after rows base below from entries
      → Advances old.output.beat new.output.beat sent
  -- no result ends above an instant by which all ends that the sources gave
  pub ends : (schemas : List (List Kind)) (before after : Plan) (rows : Rows) (base : ℕ)
      (below from : Lists) (entries : List Entry)
      → IsMoving old schemas before after rows base below from entries → (instant : ℕ)
      → AllEndBy schemas before instant below → AllEndBy schemas after instant from
      → All (λ e. e.span.end ≤ instant) (elements sent)

-- A plan that is ready began to take the place of another one, where all that came was written, at
-- a split that no element and no result reaches, and that is not below the one before it.
pub record Begins (standing : Standing) (next : Next) (split : ℕ) (m : Moving) : Type 0 where
  pub split_is : split_of m ≡ split
  pub first_is : first_of m ≡ standing.output.beat
  pub beat : m.output.beat ≡ standing.output.beat
  pub entries : m.output.entries.items ≡ standing.output.entries.items
  pub moves : (schemas : List (List Kind)) (before after : Plan) (rows : Rows) (base : ℕ)
      (below : Lists) (got : List Message) (entries : List Entry)
      → Calm standing schemas before rows base below got entries
      → standing.sent.items ≡ [] → AllEndBy schemas before split below → base ≤ split
      → split ≤ closed → All (λ e. e.span.end < split) (results entries)
      → IsTyped after schemas → WorksStand next.works schemas after no_messages []
      → AnswerAlike schemas before after rows
      → IsMoving m schemas before after rows base below no_messages entries
