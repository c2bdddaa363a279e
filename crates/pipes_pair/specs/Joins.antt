-- What a join stands for, and what its steps do. Only its relation is public.
use Rattle.std.specs.Prelude.{◌≡◌, ℕ, zero, suc, ◌≤◌, ◌<◌, min, Bool, true, false, ◌&&◌, List, ◌++◌}
use Rattle.std.specs.Prelude.{length}
use Rattle.std.specs.List.{All}
use Rattle.pipes_tuple.specs.declared.value.Kind.{Kind}
use Rattle.pipes_tuple.specs.Kinds.{Fits}
use Rattle.pipes_tuple.proofs.Perm.{Perm}
use Rattle.pipes_stream.specs.declared.Elem.{Elem}
use Rattle.pipes_stream.specs.declared.message.Message.{Message}
use Rattle.pipes_stream.specs.Lists.{run, start_of_list, Valid, beat, elements}
use Rattle.pipes_stream.specs.Lawful.{Lists, Task}
use Rattle.pipes_sweep.specs.Areas.{AreaHolds, until}
use Rattle.pipes_sweep.specs.Waiting.{StartsRise, due, later}
use Rattle.pipes_sweep.specs.Sending.{sent_at}
use Rattle.pipes_pair.specs.declared.join.Join.{Join}
use Rattle.pipes_pair.specs.declared.join.Matching.{Matching}
use Rattle.pipes_pair.specs.declared.side.Side.{Side}
use Rattle.pipes_pair.specs.Meeting.{joined_from, made_by}
use Rattle.pipes_pair.specs.Sides.{HasKey, met_count}
use Rattle.pipes_relation.specs.Tables.{left_columns, right_columns}
use Rattle.pipes_pair.specs.Tasks.{join_task}

-- The elements sent and those that wait are what the elements of both sides make, and none that
-- waits has been reached by the lower heartbeat, which is how far the list sent has come. Each area
-- has the elements that end after the other side's heartbeat, and the columns of its keys are
-- there.
pub record StandsForSides (make : Elem → Elem → List Elem) (own_kinds other_kinds : List Kind)
    (hold : List Elem) (own other : Side) (owns others sent : List Message) : Type 0 where
  pub own_valid : Valid owns
  pub other_valid : Valid others
  pub own_fits : All (λ e. Fits e.tuple own_kinds) (elements owns)
  pub other_fits : All (λ e. Fits e.tuple other_kinds) (elements others)
  pub own_is : own.watch ≡ run start_of_list owns
  pub other_is : other.watch ≡ run start_of_list others
  pub own_key : (e : Elem) → Fits e.tuple own_kinds → HasKey own.area.columns e
  pub other_key : (e : Elem) → Fits e.tuple other_kinds → HasKey other.area.columns e
  pub own_area : AreaHolds own.area (until other.watch.beat (elements owns))
  pub other_area : AreaHolds other.area (until own.watch.beat (elements others))
  pub sent_valid : Valid sent
  pub sent_beat : beat sent ≡ min own.watch.beat other.watch.beat
  pub sent_ended : (run start_of_list sent).ended ≡ (own.watch.ended && other.watch.ended)
  pub waits : All (λ e. beat sent < e.span.start) hold
  pub all : Perm (elements sent ++ hold) (made_by make (elements owns) (elements others))

abbrev pub matching_task : Matching → Task
matching_task m = join_task m.pairs m.condition m.left m.right

pub record JoinStands (j : Join) (taken : Lists) (sent : List Message) : Type 0 where
  pub going : j.failed ≡ false
  pub width : length (j.matching.left ++ j.matching.right) ≤ 32
  pub left_key : j.left.area.columns ≡ left_columns j.matching.pairs
  pub right_key : j.right.area.columns ≡ right_columns j.matching.pairs
  pub both : StandsForSides (joined_from j.matching.pairs j.matching.condition true)
      j.matching.left j.matching.right j.hold j.left j.right (taken 0) (taken 1) sent

-- the lower heartbeat
abbrev pub lower_beat : Join → ℕ
lower_beat j = min j.left.watch.beat j.right.watch.beat

abbrev pub both_ended : Join → Bool
both_ended j = j.left.watch.ended && j.right.watch.ended

-- What has ended goes from both areas, and what is due at the lower heartbeat is sent.
pub record JoinSends (old new : Join) (known : ℕ) (before now : List Message) : Type 0 where
  pub matching : new.matching ≡ old.matching
  pub failed : new.failed ≡ old.failed
  pub left_watch : new.left.watch ≡ old.left.watch
  pub right_watch : new.right.watch ≡ old.right.watch
  pub left_same : new.left.area.columns ≡ old.left.area.columns
  pub right_same : new.right.area.columns ≡ old.right.area.columns
  pub left_area : (list : List Elem) → AreaHolds old.left.area list
      → AreaHolds new.left.area (until old.right.watch.beat list)
  pub right_area : (list : List Elem) → AreaHolds old.right.area list
      → AreaHolds new.right.area (until old.left.watch.beat list)
  pub hold : new.hold ≡ later (lower_beat old) old.hold
  pub rises : StartsRise (due (lower_beat old) old.hold)
  pub appended : now ≡ before ++ sent_at known (lower_beat old) (both_ended old) old.hold

-- how many elements of the other side have the key of an element that comes to the port; none for a
-- heartbeat and the end
abbrev pub candidates : Join → ℕ → Message → ℕ
candidates j zero m = met_count j.left.area j.right.area m
candidates j (suc port) m = met_count j.right.area j.left.area m
