-- For private functions: how the tables move from one settled instant to the next, and as lines are
-- given.
use Rattle.std.specs.Prelude.{◌≡◌, ◌≢◌, ◌≤◌, ◌+◌, ℕ, nat_lt, if◌then◌else◌, Bool, false, List}
use Rattle.std.specs.Prelude.{◌++◌, Option, Some, None, flat_map}
use Rattle.std.specs.declared.cmp.Ordering.TheVariants.{Less}
use Rattle.std.specs.BTreeMap.{get}
use Rattle.std.specs.HashMap as hash
use Rattle.pipes_time.specs.Interval.{horizon}
use Rattle.pipes_tuple.specs.declared.value.Value.{Value}
use Rattle.pipes_tuple.specs.Equal.{tuple_eq}
use Rattle.pipes_stream.specs.declared.Elem.{Elem}
use Rattle.pipes_output.specs.Periods.{Period}
use Rattle.pipes_output.specs.NormalText.{period_cmp, period_line}
use Rattle.pipes_settled.specs.declared.settled.Change.{Change}
use Rattle.pipes_settled.specs.declared.settled.Settled.{Settled}
use Rattle.pipes_settled.specs.declared.pieces.Level.{Level}
use Rattle.pipes_settled.specs.declared.pieces.Pieces.{Pieces}
use Rattle.pipes_settled.specs.Certainty.{AreIntervals}
use Rattle.pipes_settled.specs.Standing.{at_cmp, begins_of, ends_of, IsPending, number}
use Rattle.pipes_settled.specs.Standing.{PiecesSettled}

abbrev pub copies_of : Option Level → ℕ
copies_of None = 0
copies_of (Some l) = l.copies

-- at the key there is w, and elsewhere what was there
pub record IsPut {K X : Type 0} (old new : K → Option X) (k : K) (w : Option X) : Type 0 where
  pub here : new k ≡ w
  pub others : (q : K) → q ≢ k → new q ≡ old q

-- the piece of a tuple ends at the instant, if it has one
abbrev pub EndsPiece : Option Level → ℕ → List Value → (ℕ × List Value → Option ℕ)
    → (ℕ × List Value → Option ℕ) → (ℕ × ℕ × List Value → Option ℕ)
    → (ℕ × ℕ × List Value → Option ℕ) → Type 0
EndsPiece None at tuple open_at open_at' closed_at closed_at' =
    ((q : ℕ × List Value) → open_at' q ≡ open_at q)
    × ((q : ℕ × ℕ × List Value) → closed_at' q ≡ closed_at q)
EndsPiece (Some l) at tuple open_at open_at' closed_at closed_at' =
    IsPut open_at open_at' (l.since, tuple) None
    × IsPut closed_at closed_at' (l.since, at, tuple) (Some l.copies)

-- a piece of so many copies begins at the instant, if there are any
pub record BeginsPiece (now at : ℕ) (tuple : List Value) (level level' : List Value → Option Level)
    (open_at open_at' : ℕ × List Value → Option ℕ) : Type 0 where
  pub levels : IsPut level level' tuple
      (if nat_lt 0 now then Some (record { since = at; copies = now }) else None)
  pub opens : 1 ≤ now → IsPut open_at open_at' (at, tuple) (Some now)
  pub stays : now ≡ 0 → (q : ℕ × List Value) → open_at' q ≡ open_at q

-- Where so many elements of the tuple begin at the instant, and so many end, the tuple is settled
-- there.
abbrev pub TurnsAt : Pieces → Pieces → ℕ → List Value → ℕ → ℕ → Type 0
TurnsAt old new at tuple begins ends =
    (f : List Value → ℕ → ℕ) (until later : List Value → ℕ) (given : List Period)
    → PiecesSettled f until given old → until tuple ≡ at
    → f tuple at + ends ≡ copies_of (hash.get tuple_eq old.levels tuple) + begins
    → ((v : List Value) (t : ℕ) → horizon ≤ t → f v t ≡ 0) → later tuple ≡ at + 1
    → ((v : List Value) → v ≢ tuple → later v ≡ until v) → PiecesSettled f later given new

-- the lines of what was given are put after what was there
pub record GivesLines (f : List Value → ℕ → ℕ) (h : ℕ) (given : List Period) (old new : List ℕ)
    (pieces : Pieces) : Type 0 where
  pub more : List Period
  pub appended : new ≡ old ++ flat_map period_line more
  pub settled : PiecesSettled f (λ v. h) (given ++ more) pieces

abbrev pub GivesFrom : Pieces → Pieces → List ℕ → List ℕ → Type 0
GivesFrom old new text text' = (f : List Value → ℕ → ℕ) (h : ℕ) (given : List Period)
    → PiecesSettled f (λ v. h) given old → GivesLines f h given text text' new

-- the least start of an open piece, where there is one
abbrev pub IsLimit : Option ℕ → (ℕ × List Value → Option ℕ) → Type 0
IsLimit None open_at = (s : ℕ) (v : List Value) → open_at (s, v) ≡ None
IsLimit (Some limit) open_at =
    ((s c : ℕ) (v : List Value) → open_at (s, v) ≡ Some c → limit ≤ s)
    × (c : ℕ) × (v : List Value) × (open_at (limit, v) ≡ Some c)

-- whether the instant is past the limit
abbrev pub is_past : Option ℕ → ℕ → Bool
is_past None s = false
is_past (Some limit) s = nat_lt limit s

-- the closed piece is the first, and leaves
pub record LeavesFirst (s e c : ℕ) (v : List Value)
    (closed_at closed_at' : ℕ × ℕ × List Value → Option ℕ) : Type 0 where
  pub first : closed_at (s, e, v) ≡ Some c
  pub gone : IsPut closed_at closed_at' (s, e, v) None
  pub least : (b g d : ℕ) (w : List Value) → closed_at' (b, g, w) ≡ Some d
      → period_cmp (record { start = s; end = e; copies = c; tuple = v })
      (record { start = b; end = g; copies = d; tuple = w }) ≡ Less

-- the change is the first, by instant and then by tuple, and leaves
pub record IsNext (at : ℕ) (tuple : List Value) (change : Change)
    (old new : ℕ × List Value → Option Change) : Type 0 where
  pub first : old (at, tuple) ≡ Some change
  pub gone : IsPut old new (at, tuple) None
  pub least : (t : ℕ) (v : List Value) (c : Change) → old (t, v) ≡ Some c → at ≤ t

-- one element more begins or ends at the key
pub record IsAdded (more less : ℕ) (key : ℕ × List Value) (old new : ℕ × List Value → Option Change)
    : Type 0 where
  pub change : Change
  pub put : IsPut old new key (Some change)
  pub begins : change.begins ≡ begins_of (old key) + more
  pub ends : change.ends ≡ ends_of (old key) + less

-- all before h is settled
pub record IsSettledTo (elems : List Elem) (h : ℕ) (given : List Period) (settled : Settled)
    : Type 0 where
  pub intervals : AreIntervals elems
  pub pending : IsPending elems (λ v. h) (get at_cmp settled.changes)
  pub pieces : PiecesSettled (number elems) (λ v. h) given settled.pieces

-- the same while it goes on: each tuple up to an instant of its own
pub record IsSettling (elems : List Elem) (from h : ℕ) (given : List Period) (settled : Settled)
    : Type 0 where
  pub until : List Value → ℕ
  pub low : (v : List Value) → from ≤ until v
  pub high : (v : List Value) → until v ≤ h
  pub intervals : AreIntervals elems
  pub pending : IsPending elems until (get at_cmp settled.changes)
  pub pieces : PiecesSettled (number elems) until given settled.pieces
