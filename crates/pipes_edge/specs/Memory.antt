-- Sources and sinks in memory, as their callers see them.
use Rattle.std.specs.Prelude.{ℕ, List}

-- A source over a file in memory. Its reads are counted from 1, and those whose number is listed
-- fail.
pub record Reading : Type 0 where
  pub name : List ℕ
  pub left : List ℕ
  pub calls : ℕ
  pub failing : List ℕ
  pub faults : ℕ

-- a source over a file in memory whose reads never fail
pub record SureReading : Type 0 where
  pub name : List ℕ
  pub left : List ℕ

-- A sink in memory, which takes at most some bytes in one write. Its writes are counted from 1, and
-- those whose number is listed fail.
pub record Collecting : Type 0 where
  pub bytes : List ℕ
  pub most : ℕ
  pub calls : ℕ
  pub failing : List ℕ
  pub faults : ℕ
