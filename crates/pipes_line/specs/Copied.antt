-- Fields that are copied, as their callers see them.
use Rattle.std.specs.Prelude.{ℕ, List, []}

-- the fields that are closed, and the bytes of the one that is open
pub record Fields : Type 0 where
  pub closed : List (List ℕ)
  pub last : List ℕ

abbrev pub no_fields : Fields
no_fields = record { closed = []; last = [] }
