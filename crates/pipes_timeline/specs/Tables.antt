-- The table of the keys and the queue of pieces, and what they stand for together.
use Rattle.std.specs.Prelude.{ℕ, ◌≡◌, ◌≤◌, ◌+◌, ◌-◌, ◌*◌, ◌⊎◌, Bool, cond, List, [], ◌∷◌, ◌++◌}
use Rattle.std.specs.Prelude.{length, slice_set, Option, Some, None, eqb}
use Rattle.pipes_time.specs.Interval.{IsInterval}
use Rattle.pipes_tuple.specs.Equal.{tuple_eq}
use Rattle.pipes_stream.specs.declared.Elem.{Elem}
use Rattle.pipes_timeline.specs.declared.piece.Piece.{Piece}
use Rattle.pipes_timeline.specs.declared.piece.Piece.TheVariants as piece
use Rattle.pipes_timeline.specs.declared.pieces.Pieces.{Pieces}
use Rattle.pipes_timeline.specs.declared.table.Slot.{Slot}
use Rattle.pipes_timeline.specs.Rules.{Row, RowBags, Arrival, rows_at, NoneOfKey, KeyRule}
use Rattle.pipes_timeline.specs.Ends.{AddsArrival}
use Rattle.pipes_timeline.specs.Lines.{PiecesStand, no_key, only_key}
use Rattle.pipes_timeline.specs.Queues.{InOrder, LinkedAt}

-- The answer of a key is a tuple, so many times.
pub record IsAnswer (r : KeyRule) (k : Row) (bags : RowBags) (tuple : Row) (many : ℕ)
    : Type 0 where
  pub copies : (x : Row) → r.gives k bags x ≡ many * cond (tuple_eq tuple x) 1 0

-- the bags with one row more at a port
abbrev pub with_arrival : RowBags → ℕ → Row → RowBags
with_arrival bags port row q = cond (eqb port q) (row ∷ bags q) (bags q)

module _ {T : Type 0} where
  -- the place of the open piece
  abbrev pub place_in : Option (Slot T) → Option ℕ
  place_in None = None
  place_in (Some s) = s.place

  -- the table, where the key has this slot, or none
  abbrev pub sets : Row → Option (Slot T) → (Row → Option (Slot T)) → Row → Option (Slot T)
  sets k o find q = cond (tuple_eq k q) o (find q)

-- the key's tally is that of its rows; without a slot it has none
abbrev pub Tallied : {T : Type 0} → KeyRule → (Row → T → RowBags → Type 0) → Row
    → Option (Slot T) → RowBags → Type 0
Tallied r tells k None bags = NoneOfKey r.key k bags
Tallied r tells k (Some s) bags = tells k s.tally bags

-- The pieces, and the table of the keys, at an instant: the pieces start in order from an instant
-- on, the table has the place of each open piece, and the tally of the rows of each key.
pub record Good {T : Type 0} (r : KeyRule) (tells : Row → T → RowBags → Type 0)
    (free : Row → Bool) (low now : ℕ) (live : List Arrival) (find : Row → Option (Slot T))
    (base : ℕ) (pieces : List Piece) (taken : List Arrival) (sent : List Elem) : Type 0 where
  pub line : PiecesStand r free now live pieces taken sent
  pub order : InOrder low pieces
  pub upto : low ≤ now
  pub linked : (k : Row) → LinkedAt k base pieces (place_in (find k))
  pub each_key : (k : Row) → Tallied r tells k (find k) (rows_at live)

-- ---- what the calls do
module _ {T : Type 0} (r : KeyRule) (tells : Row → T → RowBags → Type 0) (now : ℕ) (k : Row)
    (slot new_slot : Slot T) (old new : Pieces) where
  -- The key's piece, if it started before now, has closed: its rows may change.
  pub record Frees : Type 0 where
    pub good : (low : ℕ) (live taken : List Arrival) (sent : List Elem)
        (find : Row → Option (Slot T)) → now ≤ 1000000000000000 → find k ≡ Some slot
        → Good r tells no_key low now live find old.base old.queue.items taken sent
        → Good r tells (only_key k) low now live (sets k (Some new_slot) find) new.base
        new.queue.items taken sent

  -- Its rows have changed, and a piece is open where they give something.
  pub record Settles : Type 0 where
    pub good : (low : ℕ) (live taken : List Arrival) (sent : List Elem)
        (find : Row → Option (Slot T)) → find k ≡ Some slot
        → Good r tells (only_key k) low now live find old.base old.queue.items taken sent
        → Good r tells no_key low now live (sets k (Some new_slot) find) new.base
        new.queue.items taken sent

  -- An element of the key has come, which starts now.
  pub record Begins (s : Arrival) : Type 0 where
    pub good : (low : ℕ) (live more taken : List Arrival) (sent : List Elem)
        (find : Row → Option (Slot T)) → find k ≡ Some slot → r.key s.1.tuple ≡ k
        → s.1.span.start ≡ now → IsInterval s.1.span.start s.1.span.end → AddsArrival s live more
        → Good r tells no_key low now live find old.base old.queue.items taken sent
        → Good r tells no_key low now more (sets k (Some new_slot) find) new.base
        new.queue.items (taken ++ s ∷ []) sent

  -- An element of the key has ended, now.
  pub record Finishes (s : Arrival) : Type 0 where
    pub good : (low : ℕ) (live less taken : List Arrival) (sent : List Elem)
        (find : Row → Option (Slot T)) → find k ≡ Some slot → r.key s.1.tuple ≡ k
        → s.1.span.end ≡ now → now ≤ 1000000000000000 → AddsArrival s less live
        → Good r tells no_key low now live find old.base old.queue.items taken sent
        → Good r tells no_key low now less (sets k (Some new_slot) find) new.base
        new.queue.items taken sent

  -- Its piece has closed and opened again.
  pub record Cuts : Type 0 where
    pub good : (low : ℕ) (live taken : List Arrival) (sent : List Elem)
        (find : Row → Option (Slot T)) → now ≤ 1000000000000000 → find k ≡ Some slot
        → Good r tells no_key low now live find old.base old.queue.items taken sent
        → Good r tells no_key low now live (sets k (Some new_slot) find) new.base
        new.queue.items taken sent

-- the key's piece opens now, if none is open
abbrev pub Opens : {T : Type 0} → ℕ → Row → Slot T → Slot T → Pieces → Pieces → Type 0
Opens now k slot new_slot old new = (new_slot.tally ≡ slot.tally) × (new.base ≡ old.base)
    × ((slot.place ≡ None × (new_slot.place ≡ Some (old.base + length old.queue.items))
    × (new.queue.items ≡ old.queue.items ++ piece.Open k now ∷ []))
    ⊎ ((place : ℕ) × (slot.place ≡ Some place) × (new_slot.place ≡ Some place)
    × (new.queue.items ≡ old.queue.items)))

-- the key's piece goes, if one is open
abbrev pub Voids : {T : Type 0} → ℕ → Slot T → Slot T → Pieces → Pieces → Type 0
Voids now slot new_slot old new = (new_slot.tally ≡ slot.tally) × (new.base ≡ old.base)
    × (new_slot.place ≡ None)
    × ((slot.place ≡ None × (new.queue.items ≡ old.queue.items))
    ⊎ ((place : ℕ) × (slot.place ≡ Some place)
    × (new.queue.items ≡ slice_set old.queue.items (place - old.base) (piece.Void now))))
