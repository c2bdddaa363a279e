-- A reader of lines and its buffer, as their callers see them.
use Rattle.std.specs.Prelude.{ℕ, List, [], ◌∷◌}

-- the bytes of a read that were taken last, and those that were not taken yet
pub record Bytes : Type 0 where
  pub taken : List ℕ
  pub unread : List ℕ

abbrev pub no_bytes : Bytes
no_bytes = record { taken = []; unread = [] }

-- a reader of lines: the line it gave last, or what it has of the next one, and the bytes after it
-- that it has read already
pub record LineState : Type 0 where
  pub line : List ℕ
  pub unread : List ℕ

-- no byte was read
abbrev pub nothing_read : LineState
nothing_read = record { line = []; unread = [] }

-- a line that stands in the buffer, or that was too long for it
abbrev pub line_in : List ℕ → List ℕ → List ℕ
line_in taken [] = taken
line_in taken (byte ∷ bytes) = byte ∷ bytes
