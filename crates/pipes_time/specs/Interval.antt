-- Half-open intervals of instants, by the instants that they hold.
use Rattle.std.specs.Prelude.{ℕ, ◌≤◌, ◌<◌, ◌↔◌, Option, Some, None}

-- the number of instants: an instant is a whole number below it
abbrev pub horizon : ℕ
horizon = 1000000000000000

-- the heartbeat of a stream that has ended, which is above every instant and every end
abbrev pub closed : ℕ
closed = 1000000000000001

pub record Span : Type 0 where
  pub start : ℕ
  pub end : ℕ

-- a span that is an interval: not empty, and within the instants
abbrev pub IsInterval : ℕ → ℕ → Type 0
IsInterval start end = (start < end) × (end ≤ horizon)

-- the instant lies in the interval
abbrev pub Holds : Span → ℕ → Type 0
Holds span t = (span.start ≤ t) × (t < span.end)

-- The interval of exactly the instants that are so, or none where no instant is.
abbrev pub IsPart : Option Span → (ℕ → Type 0) → Type 0
IsPart None P = (t : ℕ) → ¬ P t
IsPart (Some span) P = (t : ℕ) → Holds span t ↔ P t
