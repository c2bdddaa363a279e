-- Counts of faults, and what a call that may fail says of them.
use Rattle.std.specs.Prelude.{ℕ, ◌+◌, ◌≤◌, ◌<◌, min, max, List, length, Result, OnErr, IfOk}

-- The count has risen. One that stands at the greatest u64 counts as risen.
abbrev pub Rose : ℕ → ℕ → Type 0
Rose before now = min (before + 1) 18446744073709551615 ≤ now

-- one more, or what it was where that is the greatest u64
abbrev pub raised : ℕ → ℕ
raised count = max count (min (count + 1) 18446744073709551615)

-- the count never falls, and a call fails only where it rose
pub record HasCause {T E : Type 0} (before now : ℕ) (result : Result T E) : Type 0 where
  pub later : before ≤ now
  pub failed : OnErr result (Rose before now)

-- at least one byte of a piece that isn't empty, and at most all of it
abbrev pub TakesSome : {E : Type 0} → Result ℕ E → List ℕ → Type 0
TakesSome r bytes = IfOk r (λ n. (n ≤ length bytes) × (0 < length bytes → 0 < n))
