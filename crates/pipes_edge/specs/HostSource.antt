-- A source over a file of the system, as its callers see it.
use Rattle.std.specs.Prelude.{ℕ, List}

-- the name by which it was found, and how often a read has failed
pub record HostReading : Type 0 where
  pub name : List ℕ
  pub faults : ℕ
