-- The pieces of the answers of all keys up to an instant, and what they stand for.
use Rattle.std.specs.Prelude.{ℕ, ◌≡◌, ◌≤◌, ◌<◌, ◌+◌, ◌*◌, Bool, false, cond, eqb, nat_le}
use Rattle.std.specs.Prelude.{nat_lt, List}
use Rattle.pipes_time.specs.Interval.{Span}
use Rattle.pipes_tuple.specs.Equal.{tuple_eq}
use Rattle.pipes_stream.specs.declared.Elem.{Elem}
use Rattle.pipes_stream.specs.Snapshot.{is_held}
use Rattle.pipes_timeline.specs.declared.piece.Piece.{Piece}
use Rattle.pipes_timeline.specs.declared.piece.Piece.TheVariants as piece
use Rattle.pipes_stream.specs.Weights.{weigh}
use Rattle.pipes_timeline.specs.Rules.{Row, RowBags, Arrival, rows_at, valid_at, KeyRule}

-- ---- tests of elements, as numbers
abbrev pub ends_after : ℕ → Span → ℕ
ends_after now span = cond (nat_lt now span.end) 1 0

abbrev pub ends_by : ℕ → Span → ℕ
ends_by now span = cond (nat_lt now span.end) 0 1

abbrev pub ends_before : ℕ → Span → ℕ
ends_before now span = cond (nat_lt span.end now) 1 0

abbrev pub starts_after : ℕ → Span → ℕ
starts_after now span = cond (nat_lt now span.start) 1 0

-- how often the element has the tuple at the instant
abbrev pub copy_at : Row → ℕ → Elem → ℕ
copy_at x t e = cond (is_held e.span t) (cond (tuple_eq e.tuple x) 1 0) 0

-- an element at the left port that has the key, and starts at b or before it
abbrev pub starts_early : (Row → Row) → Row → ℕ → Arrival → ℕ
starts_early key k b s =
    cond (eqb s.0 0) (cond (tuple_eq (key s.1.tuple) k) (cond (nat_le s.1.span.start b) 1 0) 0) 0

-- an element whose span has all of this one
abbrev pub spans_over : Span → Arrival → ℕ
spans_over span s =
    cond (nat_le s.1.span.start span.start) (cond (nat_le span.end s.1.span.end) 1 0) 0

-- 1 where nothing was counted
abbrev pub none_counted : ℕ → ℕ
none_counted n = cond (nat_lt 0 n) 0 1

-- 1 where no element's span has all of this one
abbrev pub is_bare : List Arrival → Elem → ℕ
is_bare taken e = none_counted (weigh (spans_over e.span) taken)

-- ---- pieces
-- how often the piece has the tuple at the instant, where the rows that are valid now are these
abbrev pub piece_at : KeyRule → RowBags → Row → ℕ → Piece → ℕ
piece_at r bags x t (piece.Open k b) = cond (nat_le b t) (r.gives k bags x) 0
piece_at r bags x t (piece.Closed e many) = many * copy_at x t e
piece_at r bags x t (piece.Void b) = 0

-- 1 for the open piece of the key
abbrev pub opens : Row → Piece → ℕ
opens k (piece.Open j b) = cond (tuple_eq j k) 1 0
opens k (piece.Closed e many) = 0
opens k (piece.Void b) = 0

-- 1 for an open piece of the key that started before now
abbrev pub is_old : Row → ℕ → Piece → ℕ
is_old k now (piece.Open j b) = cond (tuple_eq j k) (cond (nat_lt b now) 1 0) 0
is_old k now (piece.Closed e many) = 0
is_old k now (piece.Void b) = 0

abbrev pub start_at : Piece → ℕ
start_at (piece.Open k b) = b
start_at (piece.Closed e many) = e.span.start
start_at (piece.Void b) = b

-- 0 where the piece is as it is to be: none starts after now, one that is closed has ended, and an
-- element spans it; the open piece of a free key starts now
abbrev pub unfit : KeyRule → (Row → Bool) → ℕ → List Arrival → List Arrival → Piece → ℕ
unfit r free now live taken (piece.Open k b) =
    cond (nat_lt now b) 1 0
    + cond (free k) (cond (nat_lt b now) 1 0) (none_counted (weigh (starts_early r.key k b) live))
unfit r free now live taken (piece.Closed e many) = ends_after now e.span + is_bare taken e
unfit r free now live taken (piece.Void b) = cond (nat_lt now b) 1 0

-- ---- elements
-- The elements that were taken are those that live and those that are gone.
pub record Living (now : ℕ) (live taken : List Arrival) : Type 0 where
  pub gone : List Arrival
  pub split : (f : Arrival → ℕ) → weigh f taken ≡ weigh f live + weigh f gone
  pub over : weigh (λ s. ends_after now s.1.span) gone ≡ 0
  pub going : weigh (λ s. ends_before now s.1.span) live ≡ 0
  pub begun : weigh (λ s. starts_after now s.1.span) live ≡ 0
  pub most : weigh (λ s. ends_after 1000000000000000 s.1.span) live ≡ 0

-- What was sent, with what the pieces give, is the answer at each instant before now. The rows of a
-- free key are changing.
pub record PiecesStand (r : KeyRule) (free : Row → Bool) (now : ℕ) (live : List Arrival)
    (pieces : List Piece) (taken : List Arrival) (sent : List Elem) : Type 0 where
  pub lives : Living now live taken
  pub past : weigh (λ e. ends_after now e.span) sent ≡ 0
  pub covered : weigh (is_bare taken) sent ≡ 0
  pub fit : weigh (unfit r free now live taken) pieces ≡ 0
  -- a key has at most one open piece, and none only where it gives nothing
  pub single : (k : Row) → weigh (opens k) pieces ≤ 1
  pub idle : (k x : Row) → free k ≡ false → weigh (opens k) pieces ≡ 0
      → r.gives k (rows_at live) x ≡ 0
  pub right : (x : Row) (t : ℕ) → t < now
      → weigh (copy_at x t) sent + weigh (piece_at r (rows_at live) x t) pieces
      ≡ r.gives (r.key_of_answer x) (rows_at (valid_at t taken)) x

abbrev pub no_key : Row → Bool
no_key k = false

abbrev pub only_key : Row → Row → Bool
only_key k j = tuple_eq j k
