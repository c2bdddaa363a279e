-- Where a byte order mark may stand.
use Rattle.std.specs.Prelude.{ℕ, List, [], ◌∷◌, Bool, false, ◌==◌}

-- whether the first byte is that of a byte order mark
abbrev pub may_be_marked : List ℕ → Bool
may_be_marked [] = false
may_be_marked (byte ∷ bytes) = byte == 239
