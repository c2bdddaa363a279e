-- What the calls of a timeline do.
use Rattle.std.specs.Prelude.{ℕ, ◌≡◌, ◌≤◌, Bool, true, List, [], ◌∷◌}
use Rattle.std.specs.Prelude.{◌++◌, map, replicate, Option, Some, None}
use Rattle.indexmap.specs.IndexMap.{get}
use Rattle.pipes_time.specs.Interval.{IsInterval}
use Rattle.pipes_tuple.specs.Equal.{tuple_eq}
use Rattle.pipes_stream.specs.declared.Elem.{Elem}
use Rattle.pipes_stream.specs.declared.message.Message.{Message}
use Rattle.pipes_stream.specs.declared.message.Message.TheVariants as message
use Rattle.pipes_stream.specs.Lists.{elements}
use Rattle.pipes_timeline.specs.declared.piece.Piece.{Piece}
use Rattle.pipes_timeline.specs.declared.piece.Piece.TheVariants as piece
use Rattle.pipes_timeline.specs.declared.pieces.Pieces.{Pieces}
use Rattle.pipes_timeline.specs.declared.table.Slot.{Slot}
use Rattle.pipes_timeline.specs.declared.timeline.Timeline.{Timeline}
use Rattle.pipes_timeline.specs.Rules.{Row, RowBags, Arrival, NoneOfKey, KeyRule}
use Rattle.pipes_timeline.specs.Ends.{AddsArrival}
use Rattle.pipes_timeline.specs.Lines.{start_at, no_key}
use Rattle.pipes_timeline.specs.Tables.{Good}
use Rattle.pipes_timeline.specs.Reached.{HasComeTo}

module _ {T : Type 0} (r : KeyRule) (tells : Row → T → RowBags → Type 0) where
  -- ---- at a key
  module _ (now : ℕ) (k : Row) (find after : Row → Option (Slot T)) (old new : Pieces) where
    -- an element of the key has come, which starts now
    pub record EntersAt (s : Arrival) : Type 0 where
      pub good : (low : ℕ) (live more taken : List Arrival) (sent : List Elem)
          → r.key s.1.tuple ≡ k → s.1.span.start ≡ now
          → IsInterval s.1.span.start s.1.span.end → AddsArrival s live more
          → Good r tells no_key low now live find old.base old.queue.items taken sent
          → Good r tells no_key low now more after new.base new.queue.items (taken ++ s ∷ []) sent

    -- an element of the key has ended, now; the key is idle where it has no rows left
    pub record LeavesAt (s : Arrival) (idle : Bool) : Type 0 where
      pub good : (low : ℕ) (live less taken : List Arrival) (sent : List Elem)
          → r.key s.1.tuple ≡ k → s.1.span.end ≡ now → now ≤ 1000000000000000
          → AddsArrival s less live
          → Good r tells no_key low now live find old.base old.queue.items taken sent
          → Good r tells no_key low now less after new.base new.queue.items taken sent
      pub gone : idle ≡ true → (slot : Slot T) × (after k ≡ Some slot)
          × (slot.place ≡ None) × ((j : Row) (bags : RowBags) → tells j slot.tally bags
          → NoneOfKey r.key j bags)

  -- ---- the whole
  -- what the timeline stands for, with these elements alive
  abbrev pub Runs : {R : Type 0} → ℕ → List Arrival → Timeline T R → List Arrival → List Elem
      → Type 0
  Runs low live t taken sent =
      Good r tells no_key low t.instant live (get tuple_eq t.slots) t.pieces.base
      t.pieces.queue.items
      taken sent

  module _ {R : Type 0} (old new : Timeline T R) where
    pub record Arrives (s : Arrival) : Type 0 where
      pub now : new.instant ≡ old.instant
      pub adds : AddsArrival s old.ends new.ends
      pub good : (low : ℕ) (taken : List Arrival) (sent : List Elem) → s.1.span.start ≡ old.instant
          → IsInterval s.1.span.start s.1.span.end → Runs low old.ends old taken sent
          → Runs low new.ends new (taken ++ s ∷ []) sent

    -- an element ended now, which was taken from the ends before
    pub record Leaves (s : Arrival) : Type 0 where
      pub now : new.instant ≡ old.instant
      pub ends : new.ends ≡ old.ends
      pub good : (low : ℕ) (live taken : List Arrival) (sent : List Elem)
          → s.1.span.end ≡ old.instant → old.instant ≤ 1000000000000000
          → AddsArrival s old.ends live
          → Runs low live old taken sent → Runs low old.ends new taken sent

    -- a piece was cut, so that fewer wait
    pub record Trims : Type 0 where
      pub now : new.instant ≡ old.instant
      pub ends : new.ends ≡ old.ends
      pub good : (low : ℕ) (live taken : List Arrival) (sent : List Elem)
          → old.instant ≤ 1000000000000000 → Runs low live old taken sent
          → Runs low live new taken sent

    -- time has come to an instant, or as far as the elements that ended
    pub record Passes (to : ℕ) : Type 0 where
      pub good : (low : ℕ) (taken : List Arrival) (sent : List Elem) → old.instant ≤ to
          → Runs low old.ends old taken sent
          → (new.instant ≤ to) × Runs low new.ends new taken sent

    -- what is ready was sent
    pub record Sends (before after : List Message) : Type 0 where
      pub more : List Message
      pub appended : after ≡ before ++ more
      pub now : new.instant ≡ old.instant
      pub ends : new.ends ≡ old.ends
      pub good : (taken : List Arrival) (sent : List Message) (low : ℕ) → HasComeTo low sent
          → Runs low old.ends old taken (elements sent)
          → (high : ℕ) × (low ≤ high) × HasComeTo high (sent ++ more)
          × Runs high new.ends new taken (elements (sent ++ more))

-- what a piece that is not open gives
abbrev pub given : Piece → List Message
given (piece.Open k b) = []
given (piece.Closed e many) = map message.Elem (replicate many e)
given (piece.Void b) = []

-- how far all is sent: the start of the first piece, which is open, or now
abbrev pub reach : List Piece → ℕ → ℕ
reach [] now = now
reach (p ∷ ps) now = start_at p
