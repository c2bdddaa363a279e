-- What a reader of lines has ahead, and what a call of it takes.
use Rattle.std.specs.Prelude.{◌≡◌, ◌⊎◌, ℕ, ◌+◌, ◌<◌, ◌≤◌, List, [], ◌∷◌, ◌++◌, Bool, true, false}
use Rattle.std.specs.Prelude.{Option, length, ⊤}
use Rattle.std.specs.Io.KnownBytes.{prepend_known, Keeps, IsAtEnd}
use Rattle.pipes_line.specs.Bytes.{has_no_feed}
use Rattle.pipes_line.specs.State.{LineState}
use Rattle.pipes_line.specs.declared.reader.NextLine.{NextLine}
use Rattle.pipes_line.specs.declared.reader.NextLine.TheVariants as next

-- the bytes from here on, where the source tells those it has left
abbrev pub bytes_ahead : LineState → Option (List ℕ) → Option (List ℕ)
bytes_ahead reader left = prepend_known reader.unread left

-- the end of a line: a line feed or nothing
abbrev pub feed_of : Bool → List ℕ
feed_of true = 10 ∷ []
feed_of false = []

-- The line stood at the start of what was ahead. One without a line feed has a byte, and nothing
-- follows it.
pub record TakesLine (most : ℕ) (before now : Option (List ℕ)) (line : List ℕ) (ended : Bool) : Type
    0 where
  pub bytes : Keeps before (prepend_known (line ++ feed_of ended) now)
  pub within : has_no_feed line ≡ true
  pub short : length line ≤ most
  pub last : ended ≡ false → (0 < length line) × IsAtEnd now

-- what was ahead begins with a line of more bytes than these
pub record TakesPrefix (most : ℕ) (before now : Option (List ℕ)) (line : List ℕ) : Type 0 where
  pub bytes : Keeps before (prepend_known line now)
  pub within : has_no_feed line ≡ true
  pub long : most < length line

-- what an answer says of what was ahead before it and is now
abbrev pub ReadsLine : ℕ → Option (List ℕ) → Option (List ℕ) → List ℕ → NextLine → Type 0
ReadsLine most before now line (next.Line ended) = TakesLine most before now line ended
ReadsLine most before now line next.End = IsAtEnd before × IsAtEnd now
ReadsLine most before now line next.Long = TakesPrefix most before now line
ReadsLine most before now line next.Failed = ⊤
ReadsLine most before now line next.Memory = ⊤

-- Of a line begun with some bytes, and of the bytes that were read after them: no whole line waits
-- there, or the answer took the first one, so that a read fails only where none waits.
abbrev pub TakesWaiting : List ℕ → List ℕ → LineState → NextLine → Type 0
TakesWaiting line unread now (next.Line true) =
    (has_no_feed unread ≡ true) ⊎ (line ++ unread ≡ now.line ++ 10 ∷ now.unread)
TakesWaiting line unread now (next.Line false) = has_no_feed unread ≡ true
TakesWaiting line unread now next.End = has_no_feed unread ≡ true
TakesWaiting line unread now next.Failed = has_no_feed unread ≡ true
TakesWaiting line unread now next.Long = ⊤
TakesWaiting line unread now next.Memory = ⊤

-- a line that goes on has all that was read, and more was read after it
pub record LineGoesOn (most : ℕ) (old new : LineState) (left now : Option (List ℕ)) : Type 0 where
  pub bytes : Keeps (prepend_known old.line (bytes_ahead old left))
      (prepend_known new.line (bytes_ahead new now))
  pub no_line_waited : has_no_feed old.unread ≡ true
  pub within : has_no_feed new.line ≡ true
  pub short : length new.line ≤ most
  pub all : length new.line ≡ length old.line + length old.unread
  pub grows : 0 < length new.unread
