-- A field that is a part of its line.
use Rattle.std.specs.Prelude.{◌≡◌, ◌<◌, ◌≤◌, ℕ, ◌+◌, List, [], ◌∷◌, ◌++◌, Bool, false, ◌==◌, Some}
use Rattle.std.specs.Prelude.{length, drop, get_or, if◌then◌else◌}
use Rattle.csv.specs.Machine.{next_record}
use Rattle.csv.specs.Reading.{default_config}
use Rattle.csv.specs.declared.parser.State.{State}
use Rattle.csv.specs.declared.parser.State.TheVariants as state
use Rattle.pipes_line.specs.declared.part.Part.{Part}
use Rattle.pipes_line.specs.Bytes.{bytes_in}

-- whether a field begins with a quote
abbrev pub begins_quoted : List ℕ → Bool
begins_quoted [] = false
begins_quoted (byte ∷ bytes) = byte == 34

-- the state of `csv` at the start of a field that begins at this place
abbrev pub state_at : ℕ → State
state_at from = if from == 0 then state.StartRecord else state.StartField

-- the field that begins here is this part, as `csv` reads it: to the end of the line, or to a comma
pub record IsField (line : List ℕ) (from : ℕ) (part : Part) (next : ℕ) : Type 0 where
  pub forward : from ≤ next
  pub within : next ≤ length line
  pub last : next ≡ length line → (fields : List (List ℕ))
      → next_record default_config (state_at from) fields [] (drop from line) ≡ Some
      (fields ++ bytes_in line part ∷ [], state.StartRecord, [])
  pub comma : next < length line → get_or line next 0 ≡ 44 → (fields : List (List ℕ))
      → next_record default_config (state_at from) fields [] (drop from line)
      ≡ next_record default_config state.StartField (fields ++ bytes_in line part ∷ []) []
      (drop (next + 1) line)
