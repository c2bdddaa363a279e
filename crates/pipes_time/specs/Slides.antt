-- Sliding windows: they move at the multiples of their slide, and between two of these their rows
-- stay the same.
use Rattle.std.specs.Prelude.{ℕ, ◌+◌, ◌*◌, ◌/◌, ◌≤◌, ◌<◌, min}
use Rattle.std.specs.Int.{div_ceil}
use Rattle.pipes_time.specs.Interval.{Span, horizon, IsInterval}

-- the size or the slide of a window
abbrev pub IsDuration : ℕ → Type 0
IsDuration size = (1 ≤ size) × (size ≤ horizon)

-- the last multiple of the slide at or before an instant
abbrev pub last_slide : ℕ → ℕ → ℕ
last_slide slide t = t / slide * slide

-- the first multiple of the slide at or after it
abbrev pub next_slide : ℕ → ℕ → ℕ
next_slide slide t = div_ceil t slide * slide

-- the end of the interval of a row with this stamp
abbrev pub slide_end : ℕ → ℕ → ℕ → ℕ
slide_end size slide stamp = min (next_slide slide (stamp + size)) horizon

-- its interval
abbrev pub slide_interval : ℕ → ℕ → ℕ → Span
slide_interval stamp size slide =
    record { start = next_slide slide stamp; end = slide_end size slide stamp }

-- the interval that a time window gives such a row
abbrev pub time_interval : ℕ → ℕ → Span
time_interval stamp size = record { start = stamp; end = min (stamp + size) horizon }

-- a row with this stamp has an interval
pub record HasSlideSpan (stamp size slide : ℕ) : Type 0 where
  pub is_instant : stamp < horizon
  pub has_size : IsDuration size
  pub has_slide : IsDuration slide
  pub not_empty : IsInterval (next_slide slide stamp) (slide_end size slide stamp)

-- At the window's last move at or before the instant, the row was one of the last `size` instants.
pub record IsInSlide (stamp size slide t : ℕ) : Type 0 where
  pub has_come : stamp ≤ last_slide slide t
  pub is_young : last_slide slide t < stamp + size
  pub is_instant : t < horizon
