-- What the tables stand for: what is settled of a normal text, what was given of it, and what
-- waits.
use Rattle.std.specs.Prelude.{◌≡◌, ◌≢◌, ◌⊎◌, ◌≤◌, ◌<◌, ◌-◌, ℕ, ◌==◌, ◌&&◌, false, List, []}
use Rattle.std.specs.Prelude.{◌∷◌, ◌++◌, Option, Some, None, count_by, flat_map, Contains}
use Rattle.std.specs.Prelude.{AllPairs}
use Rattle.std.specs.declared.cmp.Ordering.{Ordering}
use Rattle.std.specs.declared.cmp.Ordering.TheVariants.{Less}
use Rattle.std.specs.Ordering.{nat_cmp, ordering_then}
use Rattle.std.specs.BTreeMap.{get}
use Rattle.std.specs.HashMap as hash
use Rattle.pipes_time.specs.Interval.{closed}
use Rattle.pipes_tuple.specs.declared.value.Value.{Value}
use Rattle.pipes_tuple.specs.Bag.{count}
use Rattle.pipes_tuple.specs.Equal.{tuple_eq}
use Rattle.pipes_tuple.specs.Order.{tuple_cmp}
use Rattle.pipes_stream.specs.declared.Elem.{Elem}
use Rattle.pipes_stream.specs.Snapshot.{snapshot}
use Rattle.pipes_output.specs.Periods.{Period}
use Rattle.pipes_output.specs.NormalText.{IsLongestPeriod, IsNormalText, period_cmp, period_line}
use Rattle.pipes_settled.specs.declared.settled.Change.{Change}
use Rattle.pipes_settled.specs.declared.settled.Settled.{Settled}
use Rattle.pipes_settled.specs.declared.pieces.Level.{Level}
use Rattle.pipes_settled.specs.declared.pieces.Pieces.{Pieces}
use Rattle.pipes_settled.specs.Certainty.{AreIntervals, IsCertain}

-- the orders of the tables
abbrev pub at_cmp : ℕ × List Value → ℕ × List Value → Ordering
at_cmp x y = ordering_then (nat_cmp x.0 y.0) (tuple_cmp x.1 y.1)

abbrev pub piece_cmp : ℕ × ℕ × List Value → ℕ × ℕ × List Value → Ordering
piece_cmp x y =
    ordering_then (ordering_then (nat_cmp x.0 y.0) (nat_cmp x.1 y.1)) (tuple_cmp x.2 y.2)

-- how many copies of the tuple there are at the instant
abbrev pub number : List Elem → List Value → ℕ → ℕ
number elems tuple t = count tuple (snapshot elems t)

-- how many elements of the tuple begin at the instant, and how many end
abbrev pub starts_at : List Elem → List Value → ℕ → ℕ
starts_at elems tuple t = count_by (λ e. tuple_eq e.tuple tuple && (e.span.start == t)) elems

abbrev pub ends_at : List Elem → List Value → ℕ → ℕ
ends_at elems tuple t = count_by (λ e. tuple_eq e.tuple tuple && (e.span.end == t)) elems

abbrev pub begins_of : Option Change → ℕ
begins_of None = 0
begins_of (Some c) = c.begins

abbrev pub ends_of : Option Change → ℕ
ends_of None = 0
ends_of (Some c) = c.ends

-- the changes at instants that are not settled are those of the elements
pub record IsPending (elems : List Elem) (until : List Value → ℕ)
    (pending : ℕ × List Value → Option Change) : Type 0 where
  pub begins : (t : ℕ) (v : List Value) → until v ≤ t
      → begins_of (pending (t, v)) ≡ starts_at elems v t
  pub ends : (t : ℕ) (v : List Value) → until v ≤ t → ends_of (pending (t, v)) ≡ ends_at elems v t
  pub past : (t : ℕ) (v : List Value) → t < until v → pending (t, v) ≡ None

-- the instants before `until` are settled, and the number is positive and the same from `since` on
pub record IsLevel (f : ℕ → ℕ) (until since copies : ℕ) : Type 0 where
  pub some : 1 ≤ copies
  pub begun : since < until
  pub within : (t : ℕ) → since ≤ t → t < until → f t ≡ copies
  pub before : 1 ≤ since → f (since - 1) ≢ copies

-- the level that the number has at the last settled instant, or none where it is 0
abbrev pub LevelIs : (ℕ → ℕ) → ℕ → Option Level → Type 0
LevelIs f until None = 1 ≤ until → f (until - 1) ≡ 0
LevelIs f until (Some l) = IsLevel f until l.since l.copies

-- With f the number of copies of each tuple at each instant, which is known before `until`: the
-- open pieces are the levels, and what has ended is given or waits, each period once; what was
-- given is before all that waits and before all that is to come.
pub record AreSettled (f : List Value → ℕ → ℕ) (until : List Value → ℕ) (given : List Period)
    (level : List Value → Option Level) (open_at : ℕ × List Value → Option ℕ)
    (closed_at : ℕ × ℕ × List Value → Option ℕ) : Type 0 where
  pub levels : (v : List Value) → LevelIs (f v) (until v) (level v)
  pub opens : (s c : ℕ) (v : List Value) → open_at (s, v) ≡ Some c
      → level v ≡ Some (record { since = s; copies = c })
  pub opened : (s c : ℕ) (v : List Value) → level v ≡ Some (record { since = s; copies = c })
      → open_at (s, v) ≡ Some c
  pub sound : (s e c : ℕ) (v : List Value) → closed_at (s, e, v) ≡ Some c
      → IsLongestPeriod (f v) s e c × (e < until v)
  pub complete : (p : Period) → IsLongestPeriod (f p.tuple) p.start p.end p.copies
      → p.end < until p.tuple
      → (closed_at (p.start, p.end, p.tuple) ≡ Some p.copies) ⊎ Contains given p
  pub gave : (p : Period) → Contains given p
      → IsLongestPeriod (f p.tuple) p.start p.end p.copies
  pub passed : (p : Period) (v : List Value) → Contains given p → p.end < until v
  pub under : (p : Period) (s c : ℕ) (v : List Value) → Contains given p
      → open_at (s, v) ≡ Some c → p.start ≤ s
  pub above : (p : Period) (s e c : ℕ) (v : List Value) → Contains given p
      → closed_at (s, e, v) ≡ Some c
      → period_cmp p (record { start = s; end = e; copies = c; tuple = v }) ≡ Less
  pub rising : AllPairs (λ p q. period_cmp p q ≡ Less) given

-- the same of the tables
abbrev pub PiecesSettled : (List Value → ℕ → ℕ) → (List Value → ℕ) → List Period → Pieces → Type 0
PiecesSettled f until given pieces = AreSettled f until given (hash.get tuple_eq pieces.levels)
    (get at_cmp pieces.opens) (get piece_cmp pieces.closed)

-- what is closed waits for an open piece that began before it
abbrev pub Waits : (ℕ × List Value → Option ℕ) → (ℕ × ℕ × List Value → Option ℕ) → Type 0
Waits open_at closed_at = (s e c : ℕ) (v : List Value) → closed_at (s, e, v) ≡ Some c
    → (r : ℕ) × (d : ℕ) × (w : List Value) × (open_at (r, w) ≡ Some d) × (r < s)

-- The elements were added, no later one starts below h, and the text was given. No call has failed.
pub record Stands (elems : List Elem) (h : ℕ) (text : List ℕ) (settled : Settled) : Type 0 where
  pub given : List Period
  pub lines : text ≡ flat_map period_line given
  pub intervals : AreIntervals elems
  pub pending : IsPending elems (λ v. h) (get at_cmp settled.changes)
  pub pieces : PiecesSettled (number elems) (λ v. h) given settled.pieces
  pub waits : Waits (get at_cmp settled.pieces.opens) (get piece_cmp settled.pieces.closed)
  pub works : settled.failed ≡ false

-- a text was put after what was there, and all that was given is certain
pub record Gives (old new : List ℕ) (elems : List Elem) (h : ℕ) (text : List ℕ)
    (settled : Settled) : Type 0 where
  pub fresh : List ℕ
  pub appended : new ≡ old ++ fresh
  pub stands : Stands elems h (text ++ fresh) settled
  pub certain : IsCertain elems h (text ++ fresh)

-- a text was put after what was there, and all that was given is the normal text
pub record Completes (old new : List ℕ) (elems : List Elem) (text : List ℕ)
    (settled : Settled) : Type 0 where
  pub fresh : List ℕ
  pub appended : new ≡ old ++ fresh
  pub stands : Stands elems closed (text ++ fresh) settled
  pub whole : IsNormalText (snapshot elems) (text ++ fresh)

-- one element more, which starts at the last instant advanced to, or later
abbrev pub Adds : Elem → Settled → Settled → Type 0
Adds elem old new = (elems : List Elem) (h : ℕ) (text : List ℕ) → Stands elems h text old
    → h ≤ elem.span.start → Stands (elems ++ elem ∷ []) h text new

-- no later element starts below h
abbrev pub Advances : ℕ → List ℕ → List ℕ → Settled → Settled → Type 0
Advances h out out' old new = (elems : List Elem) (from : ℕ) (text : List ℕ)
    → Stands elems from text old → from ≤ h → Gives out out' elems h text new

-- no element comes any more
abbrev pub Finishes : List ℕ → List ℕ → Settled → Settled → Type 0
Finishes out out' old new = (elems : List Elem) (from : ℕ) (text : List ℕ)
    → Stands elems from text old → from ≤ closed → Completes out out' elems text new

-- After any calls what was given is certain. An element is added and then its start advanced to, or
-- the other way round; and one advances twice as once.
pub record CallLaws : Type 0 where
  pub certain : (elems : List Elem) (h : ℕ) (text : List ℕ) (settled : Settled)
      → Stands elems h text settled → IsCertain elems h text
  pub add_advance : (elem : Elem) (h : ℕ) (out out' : List ℕ) (a b c : Settled) → Adds elem a b
      → Advances h out out' b c → (elems : List Elem) (from : ℕ) (text : List ℕ)
      → Stands elems from text a → from ≤ elem.span.start → from ≤ h
      → Gives out out' (elems ++ elem ∷ []) h text c
  pub advance_add : (elem : Elem) (h : ℕ) (out out' : List ℕ) (a b c : Settled)
      → Advances h out out' a b → Adds elem b c → (elems : List Elem) (from : ℕ) (text : List ℕ)
      → Stands elems from text a → from ≤ h → h ≤ elem.span.start
      → Gives out out' (elems ++ elem ∷ []) h text c
  pub advance_twice : (h k : ℕ) (out mid out' : List ℕ) (a b c : Settled) → h ≤ k
      → Advances h out mid a b → Advances k mid out' b c → (elems : List Elem) (from : ℕ)
      (text : List ℕ) → Stands elems from text a → from ≤ h → Gives out out' elems k text c
