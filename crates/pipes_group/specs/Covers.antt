-- How far what was sent covers each tuple. Only private functions use these.
use Rattle.std.specs.Prelude.{ℕ, ◌≡◌, ◌≤◌, ◌<◌, ◌+◌, ◌-◌, false, cond, min, nat_le, nat_lt}
use Rattle.std.specs.Prelude.{◌&&◌, List, [], ◌∷◌, ◌++◌, Option, Some, None}
use Rattle.std.specs.List.{All, Contains}
use Rattle.indexmap.specs.IndexMap.{get, IsUnique}
use Rattle.pipes_tuple.specs.declared.value.Value.{Value}
use Rattle.pipes_tuple.specs.Equal.{tuple_eq}
use Rattle.pipes_tuple.specs.Bag.{count}
use Rattle.pipes_time.specs.Interval.{Span, IsInterval}
use Rattle.pipes_stream.specs.declared.Elem.{Elem}
use Rattle.pipes_stream.specs.declared.message.Message.{Message}
use Rattle.pipes_stream.specs.declared.message.Message.TheVariants as message
use Rattle.pipes_stream.specs.Progress.{Progress}
use Rattle.pipes_stream.specs.Snapshot.{snapshot}
use Rattle.pipes_stream.specs.Lists.{CanFollow, after, run, start_of_list, Valid, beat, elements}
use Rattle.pipes_group.specs.declared.coverage.Slot.{Slot}
use Rattle.pipes_group.specs.declared.coverage.Coverage.{Coverage}
use Rattle.pipes_group.specs.Dues.{Due, Among, Joins, load}

abbrev pub Row : Type 0
Row = List Value

-- how many elements of the tuple are valid at the instant
abbrev pub copies : Row → ℕ → List Elem → ℕ
copies x t es = count x (snapshot es t)

-- 1 from one instant on and before the other
abbrev pub within : ℕ → ℕ → ℕ → ℕ
within a b t = cond (nat_le a t && nat_lt t b) 1 0

-- Of one tuple: it is valid at no instant from `until` on; what was sent has it at each instant at
-- which it is valid, but for those from `cover` on and before `until`, at which it is to be sent;
-- and what was sent has it from now up to `cover`.
pub record Covered (x : Row) (now cover until : ℕ) (taken sent : List Elem) : Type 0 where
  pub order : cover ≤ until
  pub over : (t : ℕ) → until ≤ t → copies x t taken ≡ 0
  pub once : (t : ℕ) → copies x t sent + within cover until t ≡ min (copies x t taken) 1
  pub solid : (t : ℕ) → now ≤ t → t < cover → copies x t sent ≡ 1

abbrev pub slot_of : ℕ → ℕ → Slot
slot_of a b = record { cover = a; until = b }

-- a tuple that has no slot is covered up to now, and is to be covered no further
abbrev pub CoveredBy : Row → ℕ → Option Slot → List Elem → List Elem → Type 0
CoveredBy x now None taken sent = Covered x now now now taken sent
CoveredBy x now (Some s) taken sent = Covered x now s.cover s.until taken sent

-- one of the elements has the tuple and is valid from the one instant to the other
abbrev pub IsInOneOf : List Elem → Row → ℕ → ℕ → Type 0
IsInOneOf taken x a b = (d : Elem) × Contains taken d × (d.tuple ≡ x) × (d.span.start ≤ a)
    × (b ≤ d.span.end)

-- Of one slot: it lies now or later, and an element that was taken reaches as far.
pub record Backed (x : Row) (s : Slot) (now : ℕ) (taken : List Elem) : Type 0 where
  pub late : now ≤ s.cover
  pub most : s.until ≤ 1000000000000000
  pub source : IsInOneOf taken x s.cover s.until

-- every tuple is covered, and each slot is among those that are due
pub record Lives (find : Row → Option Slot) (dues : List Due) (now : ℕ)
    (taken sent : List Elem) : Type 0 where
  pub covered : (x : Row) → CoveredBy x now (find x) taken sent
  pub backed : (x : Row) (s : Slot) → find x ≡ Some s → Backed x s now taken
  pub queued : (x : Row) (s : Slot) → find x ≡ Some s → Among (s.cover, x) dues
  pub parts : All (λ e. IsInOneOf taken e.tuple e.span.start e.span.end) sent

-- the list is valid, has not ended, and has come no further than an instant
pub record CoverReaches (now : ℕ) (sent : List Message) : Type 0 where
  pub valid : Valid sent
  pub going : (run start_of_list sent).ended ≡ false
  pub at_most : beat sent ≤ now

-- that at some instant up to `to`
pub record LivesTo (find : Row → Option Slot) (dues : List Due) (to : ℕ) (taken : List Elem)
    (sent : List Message) : Type 0 where
  pub now : ℕ
  pub upto : now ≤ to
  pub reaches : CoverReaches now sent
  pub lives : Lives find dues now taken (elements sent)

-- the table has a new slot for the tuple, or none, and the same for all others
abbrev pub Sets : Row → Option Slot → (Row → Option Slot) → (Row → Option Slot) → Type 0
Sets x w old new = (q : Row) → new q ≡ cond (tuple_eq x q) w (old q)

-- the tuple has no slot that lies at the instant
abbrev pub IsStale : (Row → Option Slot) → ℕ → Row → Type 0
IsStale find at x = (s : Slot) → find x ≡ Some s → s.cover ≡ at → ⊥

-- the tuple's element in the span was sent, and its coverage ends with it
pub record Extends (old new : Coverage) (x : Row) (span : Span) (before now : List Message)
    : Type 0 where
  pub sets : Sets x (Some (slot_of span.end span.end))
      (get tuple_eq old.table) (get tuple_eq new.table)
  pub unique : IsUnique tuple_eq new.table
  pub joins : Joins (span.end, x) old.dues new.dues
  pub appended : now ≡ before ++ message.Elem (record { tuple = x; span = span }) ∷ []

-- messages were sent, and tuples are covered with them as they were before
pub record CatchesUp (old : Coverage) (dues : List Due) (new : Coverage) (to : ℕ)
    (before now : List Message) : Type 0 where
  pub more : List Message
  pub appended : now ≡ before ++ more
  pub unique : IsUnique tuple_eq old.table → IsUnique tuple_eq new.table
  pub lives : (taken : List Elem) (sent : List Message)
      → LivesTo (get tuple_eq old.table) dues to taken sent
      → LivesTo (get tuple_eq new.table) new.dues to taken (sent ++ more)

-- what was due first was seen to
pub record Renews (old new : Coverage) (d : Due) (before now : List Message) : Type 0 where
  pub moves : (to : ℕ) → d.0 ≤ to → All (λ e. d.0 ≤ e.0) old.dues
      → CatchesUp old (d ∷ old.dues) new to before now
  pub fewer : (to : ℕ) → d.0 ≤ to → load to new.dues < load to old.dues + ((to + 1) - d.0)

-- an element that starts now was taken in, where each slot lies later
pub record AdmitsElem (old new : Coverage) (e : Elem) (m : Message) : Type 0 where
  pub unique : IsUnique tuple_eq old.table → IsUnique tuple_eq new.table
  pub as_far : (p : Progress) → after p m ≡ after p (message.Elem e)
  pub may_follow : (p : Progress) → CanFollow p (message.Elem e) → CanFollow p m
  pub later : IsInterval e.span.start e.span.end
      → ((x : Row) (s : Slot) → get tuple_eq old.table x ≡ Some s → e.span.start < s.cover)
      → (x : Row) (s : Slot) → get tuple_eq new.table x ≡ Some s → e.span.start < s.cover
  pub lives : (taken sent : List Elem) → IsInterval e.span.start e.span.end
      → Lives (get tuple_eq old.table) old.dues e.span.start taken sent
      → Lives (get tuple_eq new.table) new.dues e.span.start (taken ++ e ∷ [])
      (sent ++ elements (m ∷ []))
