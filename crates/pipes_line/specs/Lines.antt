-- The lines of a text.
use Rattle.std.specs.Prelude.{ℕ, ◌+◌, ◌==◌, List, [], ◌∷◌, Bool, true, false, if◌then◌else◌, length}

-- a line without its line feed, and whether it has one
pub record Line : Type 0 where
  pub text : List ℕ
  pub ended : Bool

-- the lines once this byte stands before them in the first one
abbrev pub before_lines : ℕ → List Line → List Line
before_lines byte [] = record { text = byte ∷ []; ended = false } ∷ []
before_lines byte (line ∷ lines) = record { text = byte ∷ line.text; ended = line.ended } ∷ lines

-- each line ends at a line feed, the last one perhaps at the end of the text
abbrev pub lines_of : List ℕ → List Line
lines_of [] = []
lines_of (byte ∷ bytes) =
    if byte == 10 then record { text = []; ended = true } ∷ lines_of bytes
    else before_lines byte (lines_of bytes)

-- how many bytes a line has, its line feed included
abbrev pub size_of : Line → ℕ
size_of line = length line.text + (if line.ended then 1 else 0)
